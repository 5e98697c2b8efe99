use Rattle.std.proofs.Common.{◌≡◌, [], length, true, sym, subst, ap, ◌∙◌, arith}
use Rattle.cb_job_files.specs.Loading.{AreInOrder, HasEnded}
use Rattle.cb_job_files.proofs.ReadLemmas.{text_whole, written_back}
use Rattle.cb_job_files.proofs.loading.load_parts.Goals as goal

pub returns-in-Ok-true : goal.returns-in-Ok-true
returns-in-Ok-true g c =
    let gives = g.F.StoredFile.gives c.args.file.now in
    let kept = c.load_each.auto.parts in
    let lent = c.deref_mut.ensures.len in
    let before : length c.args.parts.items ≡ c.args.parts.len = omega arith in
    let after : length c.load_each.new.parts ≡ c.args.parts.len = omega (arith, kept, lent) in
    let same = written_back c.load_each.new.parts c.args.parts.items c.args.parts.len before after in
    let order = subst (AreInOrder 0 c.deref.result.now) c.if-branch-length.false c.in_ok-end_of.ensures in
    let end : gives c.args.length [] = subst (HasEnded gives c.args.length) c.in-Ok-true.field-0-test c.in-Ok-true.ensures.end in
    text_whole gives (g.F.StoredFile.says c.args.file.now) c.load_each.new.parts _ c.args.length c.text_of.result same c.load_each.ensures
    (subst (λ parts. AreInOrder 0 parts c.args.length) c.deref.ensures.value order) end c.requires c.text_of.ensures
