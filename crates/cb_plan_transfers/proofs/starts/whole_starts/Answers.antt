use Rattle.std.proofs.Common.{◌≡◌, ◌*◌, ◌<◌, ℕ, List, [], sym, ap, subst, refl, ◌∙◌, arith}
use Rattle.std.specs.Prelude.{All, AllPairs}
use Rattle.std.specs.List.{range_with_len, flat_map}
use Rattle.std.proofs.lemmas.List.Elements.{All-nil, All-cons}
use Rattle.cb_matrix.proofs.Pairs.{AllPairs-nil, AllPairs-cons}
use Rattle.cb_matrix.specs.Sparse.{Extent}
use Rattle.cb_plan.specs.declared.acts.Start.{Start}
use Rattle.cb_plan.specs.Plans.{IsElsewhere}
use Rattle.cb_plan.proofs.Ranges.{extended}
use Rattle.cb_plan_parts.proofs.Starts.{all_starts, starts_once}
use Rattle.cb_plan_transfers.specs.WholeStarts.{whole_start}
use Rattle.cb_plan_transfers.proofs.starts.whole_starts.Goals as goal

pub loop-rank-preserved : goal.loop-rank-preserved
loop-rank-preserved c =
    extended (whole_start c.args.shape) c.loop-rank.rank [] c.loop-rank.starts.items _ c.loop-rank.invariant c.in_ok-push.ensures.items

exist : (ranks : ℕ) (shape : Extent) (m : ℕ) → m ≡ ranks → All (λ (s : Start). (s.rank < ranks) × (s.slot < 256)) (flat_map (whole_start shape) (range_with_len 0 m))
exist ranks shape m e = all_starts (λ s. (s.rank < ranks) × (s.slot < 256)) (whole_start shape) 0 m
    (λ k l b. All-cons (λ (s : Start). (s.rank < ranks) × (s.slot < 256)) _ [] (omega arith, omega arith) (All-nil _))

once : (shape : Extent) (m : ℕ) → AllPairs IsElsewhere (flat_map (whole_start shape) (range_with_len 0 m))
once shape m = starts_once (whole_start shape)
    (λ k. All-cons (λ (s : Start). s.rank ≡ k) _ [] refl (All-nil _))
    (λ k. AllPairs-cons IsElsewhere _ [] (All-nil _) (AllPairs-nil IsElsewhere)) 0 m

pub returns-clause-exist : goal.returns-clause-exist
returns-clause-exist c =
    let q = c.args.grid.now.side in
    let last : c.loop-rank.rank ≡ q * q = omega arith in
    subst (λ (ss : List Start). All (λ (s : Start). (s.rank < q * q) × (s.slot < 256)) ss) (sym c.loop-rank.invariant) (exist (q * q) c.args.shape c.loop-rank.rank last)

pub returns-clause-once : goal.returns-clause-once
returns-clause-once c =
    subst (λ (ss : List Start). AllPairs IsElsewhere ss) (sym c.loop-rank.invariant) (once c.args.shape c.loop-rank.rank)

pub returns-clause-starts : goal.returns-clause-starts
returns-clause-starts c =
    let q = c.args.grid.now.side in
    let last : c.loop-rank.rank ≡ q * q = omega arith in
    c.loop-rank.invariant ∙ ap (λ n. flat_map (whole_start c.args.shape) (range_with_len 0 n)) last
