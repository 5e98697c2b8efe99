use Rattle.std.proofs.Common.{◌∙◌, ap, rules}
use Rattle.std.proofs.lemmas.Fn.{filter_same}
use Rattle.cb_reshape.specs.Rows.{entries_within}
use Rattle.cb_reshape.proofs.entries_in_rows.Goals as goal

pub returns : goal.returns
returns g c = filter_same _ _ _ (λ x b f' k. search rules) _ _ c.retain.ensures.filtered ∙ ap (entries_within c.args.rows) c.in_ok-entries.ensures
