use Rattle.std.proofs.Common.{◌≡◌, ◌≢◌, ◌+◌, ◌-◌, ℕ, ◌<◌, ◌≤◌, length, get_or, vec_len, vec_capacity}
use Rattle.std.specs.Prelude.{All}
use Rattle.cb_selections.proofs.functions.each.Given as goal

abbrev pub invariant-loop-n : goal.invariant-loop-n
invariant-loop-n g l =
    record {
      long : length l.made.items ≡ l.n;
      each : (k : ℕ) → k < l.n → goal.F-post g l.f (get_or l.rows k 0) (get_or l.values k 0) (get_or l.made.items k 0);
      not_zero : All (λ v. v ≢ g.S.Semiring.arithmetic.zero) l.made.items;
      room : vec_len l.made + (length l.rows - l.n) ≤ vec_capacity l.made;
    }
