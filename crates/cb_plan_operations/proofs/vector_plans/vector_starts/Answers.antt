use Rattle.std.proofs.Common.{◌≡◌, ◌*◌, ◌<◌, List, [], sym, ap, subst, ◌∙◌, arith}
use Rattle.std.specs.Prelude.{flat_map, All, AllPairs}
use Rattle.std.specs.List.{range_with_len}
use Rattle.cb_plan.specs.declared.acts.Start.{Start}
use Rattle.cb_plan.specs.Plans.{IsElsewhere}
use Rattle.cb_plan.proofs.Ranges.{extended}
use Rattle.cb_plan_operations.specs.VectorPlans.{vector_starts_at, vector_starts}
use Rattle.cb_plan_operations.proofs.VectorStarts.{vector_starts_exist, vector_starts_once}
use Rattle.cb_plan_operations.proofs.vector_plans.vector_starts.Goals as goal

pub loop-rank-preserved : goal.loop-rank-preserved
loop-rank-preserved c = extended (vector_starts_at c.args.grid.now.side c.args.a) c.loop-rank.rank [] c.loop-rank.starts.items _ c.loop-rank.invariant c.in_ok-push_starts.ensures

pub returns-clause-exist : goal.returns-clause-exist
returns-clause-exist c =
    let q = c.args.grid.now.side in
    let last : c.loop-rank.rank ≡ q * q = omega arith in
    let all : c.loop-rank.starts.items ≡ vector_starts q c.args.a = c.loop-rank.invariant ∙ ap (λ n. flat_map (vector_starts_at q c.args.a) (range_with_len 0 n)) last in
    subst (λ (ss : List Start). All (λ (s : Start). (s.rank < q * q) × (s.slot < 256)) ss) (sym all) (vector_starts_exist q c.args.a)

pub returns-clause-once : goal.returns-clause-once
returns-clause-once c =
    let q = c.args.grid.now.side in
    let last : c.loop-rank.rank ≡ q * q = omega arith in
    let all : c.loop-rank.starts.items ≡ vector_starts q c.args.a = c.loop-rank.invariant ∙ ap (λ n. flat_map (vector_starts_at q c.args.a) (range_with_len 0 n)) last in
    subst (λ (ss : List Start). AllPairs IsElsewhere ss) (sym all) (vector_starts_once q c.args.a)
