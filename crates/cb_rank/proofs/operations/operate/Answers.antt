-- No operand is lost, so each has the shape that the check gives it.
use Rattle.std.proofs.Common.{◌≡◌, sym, ◌∙◌, ap, None}
use Rattle.cb_plan.specs.Checks.{operands_of}
use Rattle.cb_rank.specs.Halves.{first_lost}
use Rattle.cb_rank.proofs.ByOperation.{may_work}
use Rattle.cb_rank.proofs.RankAfterHalf.{none_lost_shapes}
use Rattle.cb_rank.proofs.operations.operate.Goals as goal

pub work-requires : goal.work-requires
work-requires g c =
    let shape = c.requires.shapes in
    let none : first_lost c.args.store.now (operands_of c.args.op.now) ≡ None = ap (λ ns. first_lost c.args.store.now ns) (sym (c.as_slice.ensures ∙ c.operands.ensures)) ∙ sym c.first_lost.ensures ∙ c.in_default-first_lost.is in
    let may = may_work c.args.op.now _ shape.0 (none_lost_shapes shape.0 c.args.store.now (operands_of c.args.op.now) shape.3 none) (shape.1, shape.2) in
    record { slots = c.requires.slots; filled = may.0; agree = may.1 }
