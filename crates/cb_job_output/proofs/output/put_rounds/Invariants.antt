use Rattle.std.proofs.Common.{◌≡◌, ℕ, ◌+◌, ◌*◌, List, [], ◌++◌, length, false, if◌then◌else◌}
use Rattle.std.specs.Io.KnownBytes.{Appends}
use Rattle.cb_job_output.specs.Rounds.{joined, AreAllOf}
use Rattle.cb_job_output.proofs.output.put_rounds.Given as goal

-- what was written, the two rounds and what is left are the text; nothing failed; the shares of the first round are made; and
-- if one of the later parts has nothing, nothing follows
abbrev pub invariant-loop-is_left : goal.invariant-loop-is_left
invariant-loop-is_left g l =
    let made = joined l.round.dealt in
    let dealt = joined l.next.dealt in record {
      text : (done : List ℕ) × Appends (g.K.Sink.written l.fn.out) (g.K.Sink.written l.out) done × (done ++ (made ++ (dealt ++ l.rest.text)) ≡ l.fn.rest.text);
      works : g.K.Sink.has_failed l.out ≡ false;
      all : AreAllOf l.round.dealt l.round.own l.round.others.items;
      rest : dealt ≡ [] → l.rest.text ≡ [];
      none : l.is_left ≡ false → (made ≡ []) × (dealt ≡ []);
    }

abbrev pub decreases-loop-is_left : goal.decreases-loop-is_left
decreases-loop-is_left g l =
    3 * length l.rest.text + 2 * length (joined l.next.dealt) + length (joined l.round.dealt) + (if l.is_left then 1 else 0)
