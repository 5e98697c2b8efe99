-- Who can act in a world, and what remains to be done.
use Rattle.std.proofs.Common.{◌≡◌, ℕ, ◌-◌, ◌*◌, ◌<◌, ◌≤◌, length, sym, ◌∙◌, ap, arith}
use Rattle.std.specs.Prelude.{Option, Some, None, nat_lt, get_or, slice_get}
use Rattle.std.proofs.lemmas.Bool.Decides.{nat_tests}
use Rattle.std.proofs.lemmas.List.{get_or_past}
use Rattle.std.proofs.lemmas.Option.{slice_get_past, slice_get-get_or}
use Rattle.cb_semirings.specs.Arithmetic.{Arithmetic}
use Rattle.cb_plan.specs.declared.acts.Half.{Half}
use Rattle.cb_plan.specs.declared.acts.Half.TheVariants as half_is
use Rattle.cb_plan.specs.Algebras.{matrices}
use Rattle.cb_plan.specs.Checks.{none_shut, started}
use Rattle.cb_plan.specs.Programs.{project}
use Rattle.cb_plan.specs.Stores.{state_of}
use Rattle.cb_rank.specs.Ranks.{RankView, next_half}
use Rattle.cb_plan.proofs.Effects.{split}
use Rattle.cb_rank.proofs.RankAfterHalf.{few_halves}
use Rattle.cb_rank_world.specs.Worlds.{WorldView, IsWorld, no_rank, rank_of, next_of, lane_between, system_of, CanDo, CanAct, AllDone, remaining, refusals_in}
use Rattle.cb_rank_world.proofs.Progress.{Can, someone_moves, queued_of_agrees}
use Rattle.cb_rank_world.proofs.RankSums.{sum_is_none, none_of_sum, sum_is_below}
use Rattle.cb_rank_world.proofs.NextHalf.{passes_of, program_of}

can_do : (w : WorldView) (r : ℕ) (h : Option Half) → Can w.capacity (λ p q. length (lane_between w p q).queue) r h → CanDo w r h
can_do w r (Some (half_is.Work op)) c = c
can_do w r _ c = c

-- a rank that doesn't exist has no next half
pub no_next : (w : WorldView) (r : ℕ) → length w.ranks ≤ r → next_of w r ≡ None
no_next w r past = let none : rank_of w r ≡ no_rank = get_or_past w.ranks r no_rank past in ap next_half none

-- past the last half there is none
done_next : (x : RankView) → length x.program ≤ x.done → next_half x ≡ None
done_next x past = slice_get_past x.program x.done past

-- a rank that has no next half has done its whole program
pub is_done_by : (x : RankView) → next_half x ≡ None → length x.program ≤ x.done
is_done_by x none =
    split (nat_lt x.done (length x.program))
    (λ t.
    let more : x.done < length x.program = grind (arith, nat_tests) in
    let some = slice_get-get_or x.program x.done (half_is.End 0) more in
    let both : Some (get_or x.program x.done (half_is.End 0)) ≡ None = sym some ∙ none in
    cc)
    (λ f. grind (arith, nat_tests))

-- if no rank can act, all are done
pub someone_acts : (s : Arithmetic) (w : WorldView) → IsWorld s w → ((r : ℕ) → r < w.plan.ranks → ¬ CanAct w r) → AllDone w
someone_acts s w sound none r =
    split (nat_lt r w.plan.ranks)
    (λ i.
    let inside : r < w.plan.ranks = grind (arith, nat_tests) in
    split (nat_lt (rank_of w r).done (length (rank_of w r).program))
    (λ t.
    let more : (rank_of w r).done < length (rank_of w r).program = grind (arith, nat_tests) in
    let there : (rank_of w r).done < length (project w.plan.starts w.plan.acts r) = rw (program_of w r (sound.ranks r inside)) at more in
    let room : 0 < w.capacity = let c = sound.capacity in omega arith in
    let m = someone_moves w.plan.ranks w.capacity (λ p q. length (lane_between w p q).queue) room
    (started w.plan.starts) none_shut w.plan.acts (system_of w).done (passes_of s w sound) (queued_of_agrees (matrices s) w.plan.acts (state_of w.first) (system_of w) sound.agrees) r there in
    let can = can_do w m.0 (slice_get (project w.plan.starts w.plan.acts m.0) (rank_of w m.0).done) m.2 in
    absurd (none m.0 m.1 (rw (program_of w m.0 (sound.ranks m.0 m.1)) can)))
    (λ f. done_next (rank_of w r) (grind (arith, nat_tests))))
    (λ o. no_next w r (let size = sound.sizes.0 in let past : w.plan.ranks ≤ r = grind (arith, nat_tests) in omega arith))

-- if all are done, nothing remains
pub none_remains : (w : WorldView) → AllDone w → remaining w ≡ 0
none_remains w done = sum_is_none (λ x. length x.program - x.done) no_rank w.ranks (λ r l. let past = is_done_by (rank_of w r) (done r) in omega arith)

-- if nothing remains, all are done
pub all_done_by : (w : WorldView) → remaining w ≡ 0 → AllDone w
all_done_by w none r =
    split (nat_lt r (length w.ranks))
    (λ t. let left = none_of_sum (λ x. length x.program - x.done) no_rank w.ranks none r (grind (arith, nat_tests)) in done_next (rank_of w r) (omega arith))
    (λ f. no_next w r (grind (arith, nat_tests)))

-- each rank was refused memory at most 2^32 - 1 times
pub few_refused : (s : Arithmetic) (w : WorldView) → IsWorld s w → refusals_in w ≤ length w.ranks * 4294967295
few_refused s w sound =
    sum_is_below (λ x. x.refusals) no_rank 4294967295 w.ranks (λ r l.
    let is = (sound.ranks r (let size = sound.sizes.0 in omega arith)).sound in
    let few = few_halves (rank_of w r) is in
    let a = is.refusals in
    let b = is.progress in
    omega arith)
