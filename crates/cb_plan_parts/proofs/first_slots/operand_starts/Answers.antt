use Rattle.std.proofs.Common.{◌≡◌, ◌*◌, ◌<◌, List, [], sym, ap, subst, ◌∙◌, arith}
use Rattle.std.specs.Prelude.{flat_map, All, AllPairs}
use Rattle.std.specs.List.{range_with_len}
use Rattle.cb_plan.specs.declared.acts.Start.{Start}
use Rattle.cb_plan.specs.Plans.{IsElsewhere}
use Rattle.cb_plan.proofs.Ranges.{extended}
use Rattle.cb_plan_parts.specs.PlanParts.{starts_at, operand_starts}
use Rattle.cb_plan_parts.proofs.Starts.{operands_exist, operands_once}
use Rattle.cb_plan_parts.proofs.first_slots.operand_starts.Goals as goal

pub loop-rank-preserved : goal.loop-rank-preserved
loop-rank-preserved c =
    extended (starts_at c.args.grid.now.side c.args.operands.now) c.loop-rank.rank [] c.loop-rank.starts.items _ c.loop-rank.invariant c.in_ok-push_starts.ensures

pub returns-clause-exist : goal.returns-clause-exist
returns-clause-exist c =
    let q = c.args.grid.now.side in
    let os = c.args.operands.now in
    let last : c.loop-rank.rank ≡ q * q = omega arith in
    let all : c.loop-rank.starts.items ≡ operand_starts q os = c.loop-rank.invariant ∙ ap (λ n. flat_map (starts_at q os) (range_with_len 0 n)) last in
    subst (λ (ss : List Start). All (λ (s : Start). (s.rank < q * q) × (s.slot < 256)) ss) (sym all) (operands_exist q os c.requires)

pub returns-clause-once : goal.returns-clause-once
returns-clause-once c =
    let q = c.args.grid.now.side in
    let os = c.args.operands.now in
    let last : c.loop-rank.rank ≡ q * q = omega arith in
    let all : c.loop-rank.starts.items ≡ operand_starts q os = c.loop-rank.invariant ∙ ap (λ n. flat_map (starts_at q os) (range_with_len 0 n)) last in
    subst (λ (ss : List Start). AllPairs IsElsewhere ss) (sym all) (operands_once q os c.requires)
