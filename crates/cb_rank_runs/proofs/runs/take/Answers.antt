use Rattle.std.proofs.Common.{◌≡◌, refl, sym, subst}
use Rattle.cb_rank.specs.Ranks.{IsAwaited, next_half, onward, slots_with}
use Rattle.cb_rank.proofs.Ports.{waits_for}
use Rattle.cb_lanes.specs.Desks.{Takes}
use Rattle.cb_rank_runs.specs.Runs.{IsOther}
use Rattle.cb_rank_runs.proofs.HalfOverDesk.{is_lane, is_waiting, does_letter, does_mark}
use Rattle.cb_rank_runs.proofs.OtherRanks.{err_is}
use Rattle.cb_rank_runs.proofs.RecorderEvents.{tells_arrival}
use Rattle.cb_rank_runs.proofs.runs.take.Goals.{in-Letter, in-End}
use Rattle.cb_rank_runs.proofs.runs.take.Goals as goal

pub next_take-mark-requires : goal.next_take-mark-requires
next_take-mark-requires g c =
    let it = waits_for _ c.args.from c.requires.rank c.requires.want in
    is_lane c.args.rank.now c.args.desk.now c.args.from c.requires.under_way it.other.0 it.other.1

pub unreachable-requires-in-Stranger : goal.unreachable-requires-in-Stranger
unreachable-requires-in-Stranger g c =
    let it = waits_for _ c.args.from c.requires.rank c.requires.want in
    let lane = is_lane c.args.rank.now c.args.desk.now c.args.from c.requires.under_way it.other.0 it.other.1 in
    let stranger = c.in_ok-letter.ensures.stranger.0 c.in-Stranger.is in
    cc

pub accept-requires : goal.accept-requires
accept-requires g c = is_waiting c.args.rank.now c.args.from c.requires.want

pub returns-in_default-clause-gone : goal.returns-in_default-clause-gone
returns-in_default-clause-gone g c = (waits_for _ c.args.from c.requires.rank c.requires.want).other

pub returns-in_err-letter-clause-gone : goal.returns-in_err-letter-clause-gone
returns-in_err-letter-clause-gone g c =
    let other = (waits_for _ c.args.from c.requires.rank c.requires.want).other in
    err_is (λ e. IsOther c.args.rank.now e.0) c.in_err-letter.field-0.0 c.from_residual.result c.from_residual.ensures.1
    (subst (λ k. IsOther c.args.rank.now k) (sym c.in_err-letter.ensures.gone.0) other)

pub returns-clause-next : goal.returns-clause-next
returns-clause-next g c =
    let x = c.args.rank.now in
    let d = c.args.desk.now in
    let y = c.accept.new.self in
    let e = c.take.new.self in
    let from = c.args.from in
    let awaited = c.in-Ok.ensures.awaited.0 refl in
    let onto = c.in-Ok.ensures.taken in
    let takes = c.in_ok-letter.ensures.taken in
    elim c.match-branch-2.branch [
      | in-Letter w ↦
          does_letter _ x y d e from w.in-Letter.letter c.requires.rank c.requires.under_way c.requires.want
          (subst (λ a. IsAwaited (next_half x) x.me a) w.arrival-is awaited)
          (subst (λ a. y ≡ onward x (slots_with (next_half x) a x.slots) x.refusals) w.arrival-is onto)
          (subst (λ t. Takes d from t e) w.in-Letter.is takes)
      | in-End w ↦
          does_mark _ x y d e from c.requires.rank c.requires.under_way c.requires.want
          (subst (λ a. IsAwaited (next_half x) x.me a) w.arrival-is awaited)
          (subst (λ a. y ≡ onward x (slots_with (next_half x) a x.slots) x.refusals) w.arrival-is onto)
          (subst (λ t. Takes d from t e) w.in-End.is takes)
    ]

pub returns-clause-told : goal.returns-clause-told
returns-clause-told g c =
    let told = subst (λ e. g.T.Recorder.tells c.args.recorder.now e c.tell.new.self) c.event_of-event.ensures c.tell.ensures in
    tells_arrival g.T.Recorder.tells c.args.rank.now c.args.desk.now c.args.from _ _ _ _ c.requires.under_way c.requires.want (c.in-Ok.ensures.awaited.0 refl) c.next_take-mark.ensures told
