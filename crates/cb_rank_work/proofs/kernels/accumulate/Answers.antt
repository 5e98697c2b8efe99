use Rattle.std.proofs.Common.{◌∙◌, sym}
use Rattle.cb_rank_work.proofs.SumInPlace.{accumulated, put_back}
use Rattle.cb_rank_work.proofs.kernels.accumulate.Goals as goal

pub returns-in-Ok-clause-ok : goal.returns-in-Ok-clause-ok
returns-in-Ok-clause-ok g c =
    accumulated g.S.Semiring.arithmetic c.args.store.now c.take.new.self c.put.new.self c.args.a c.args.b c.args.acc c.sheet.result.now c.sheet-2.result.now c.in-Sheet.sum c.in-Ok.sum c.requires.other_left c.requires.other_right (sym c.in-Sheet.is ∙ c.take.ensures.value) c.take.ensures.left c.sheet.ensures c.sheet-2.ensures c.in-Ok.ensures.ok c.put.ensures.value

pub returns-in-Err-clause-err : goal.returns-in-Err-clause-err
returns-in-Err-clause-err g c =
    put_back c.args.store.now c.take.new.self c.put_shared.new.self c.args.acc _ _ (sym c.in-Sheet.is ∙ c.take.ensures.value) c.take.ensures.left c.put_shared.ensures.value (Rattle.std.proofs.Common.ap Rattle.cb_plan.specs.declared.stores.Slot.TheVariants.Sheet c.in-Err.ensures.err)
