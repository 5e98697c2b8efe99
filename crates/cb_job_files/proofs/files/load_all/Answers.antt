use Rattle.std.proofs.Common.{rules, subst}
use Rattle.std.specs.Prelude.{Err}
use Rattle.cb_job_files.proofs.FileLemmas.{held_more, were_held}
use Rattle.cb_job_files.proofs.files.load_all.Goals as goal

pub loop-which-preserved : goal.loop-which-preserved
loop-which-preserved g c =
    let holds = g.F.FileSource.holds c.args.files.now in
    let so_far = c.loop-which in
    let here = subst (λ name. holds name c.in-Ok.text) c.name_at.ensures c.in-Ok.ensures.bytes in record {
      held = rw c.push_reserved.ensures.items (held_more holds c.args.names.now so_far.texts.items c.in-Ok.text so_far.which so_far.invariant.count so_far.invariant.held here);
      count = search rules;
      room = search rules;
    }

pub returns-in-Err-Unreadable-clause-fault : goal.returns-in-Err-Unreadable-clause-fault
returns-in-Err-Unreadable-clause-fault g c = (
  search rules,
  were_held (g.F.FileSource.holds c.args.files.now) c.args.names.now c.loop-which.texts.items c.loop-which.which c.loop-which.invariant.held,
  subst (g.F.FileSource.refuses c.args.files.now) c.name_at.ensures (c.in-Err-Unreadable.ensures.refused (λ i. Err (c.in-Err-Unreadable.field-0-is i))),
)
