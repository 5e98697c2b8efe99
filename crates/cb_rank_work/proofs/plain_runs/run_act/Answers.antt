use Rattle.cb_plan.specs.Algebras.{matrices}
use Rattle.cb_rank_work.proofs.DoneActs.{moved, worked}
use Rattle.cb_rank_work.proofs.plain_runs.run_act.Goals as goal

pub returns-in_ok-block-in-Move-clause-none_lost : goal.returns-in_ok-block-in-Move-clause-none_lost
returns-in_ok-block-in-Move-clause-none_lost g c =
    let sound = rw c.in-Move.is at c.requires.sound.1 in
    (moved (matrices g.S.Semiring.arithmetic) c.args.stores.now.items c.requires.table c.requires.none_lost c.requires.sound.0 c.in-Move.from c.in-Move.to c.in-Move.tag c.in-Move.slot c.in-Move.into c.index.result.now c.index_mut.result.now c.set.new.self c.in_ok-block-in-Move.block sound c.index.ensures c.index_mut.ensures.value c.in_ok-block-in-Move.ensures.copy c.set.ensures.value).none_lost

pub returns-in_ok-block-in-Move-clause-act : goal.returns-in_ok-block-in-Move-clause-act
returns-in_ok-block-in-Move-clause-act g c =
    let sound = rw c.in-Move.is at c.requires.sound.1 in
    rw c.in-Move.is (moved (matrices g.S.Semiring.arithmetic) c.args.stores.now.items c.requires.table c.requires.none_lost c.requires.sound.0 c.in-Move.from c.in-Move.to c.in-Move.tag c.in-Move.slot c.in-Move.into c.index.result.now c.index_mut.result.now c.set.new.self c.in_ok-block-in-Move.block sound c.index.ensures c.index_mut.ensures.value c.in_ok-block-in-Move.ensures.copy c.set.ensures.value).means

pub returns-in_ok-work-in-Work-clause-none_lost : goal.returns-in_ok-work-in-Work-clause-none_lost
returns-in_ok-work-in-Work-clause-none_lost g c =
    let sound = rw c.in-Work.is at c.requires.sound.1 in
    (worked (matrices g.S.Semiring.arithmetic) c.args.stores.now.items c.requires.table c.requires.none_lost c.requires.sound.0 c.in-Work.rank c.in-Work.op c.index_mut-in-Work.result.now c.work.new.store sound c.index_mut-in-Work.ensures.value c.in_ok-work-in-Work.ensures.ok).none_lost

pub returns-in_ok-work-in-Work-clause-act : goal.returns-in_ok-work-in-Work-clause-act
returns-in_ok-work-in-Work-clause-act g c =
    let sound = rw c.in-Work.is at c.requires.sound.1 in
    rw c.in-Work.is (worked (matrices g.S.Semiring.arithmetic) c.args.stores.now.items c.requires.table c.requires.none_lost c.requires.sound.0 c.in-Work.rank c.in-Work.op c.index_mut-in-Work.result.now c.work.new.store sound c.index_mut-in-Work.ensures.value c.in_ok-work-in-Work.ensures.ok).means
