use Rattle.std.proofs.Common.{ap, ◌∙◌}
use Rattle.cb_market_pages.specs.Text.{lines_in}
use Rattle.cb_market_pages.specs.declared.line_forms.LineForm.TheVariants as form_is
use Rattle.cb_market_pages.proofs.ColumnTexts.{number_lines, vertex_lines}
use Rattle.cb_market_pages.proofs.text_pages.TextPages.lines_in.Goals as goal

pub returns-clause-values : goal.returns-clause-values
returns-clause-values g c =
    λ e. ap (λ form. lines_in form c.new.result) e ∙ ap (lines_in form_is.RowAndValue) (c.new.ensures ∙ c.of_block.ensures) ∙ number_lines c.args.block.now

pub returns-clause-vertices : goal.returns-clause-vertices
returns-clause-vertices g c =
    λ e. ap (λ form. lines_in form c.new.result) e ∙ ap (lines_in form_is.RowAndVertex) (c.new.ensures ∙ c.of_block.ensures) ∙ vertex_lines c.args.block.now
