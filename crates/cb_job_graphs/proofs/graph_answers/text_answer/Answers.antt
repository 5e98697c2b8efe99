use Rattle.std.proofs.Common.{ap, sym, ◌∙◌}
use Rattle.cb_market_pages.proofs.ColumnTexts.{number_lines, vertex_lines}
use Rattle.cb_job_graphs.specs.GraphTasks.{answer_text}
use Rattle.cb_job_graphs.proofs.graph_answers.text_answer.Goals as goal

pub returns-in-Numbers : goal.returns-in-Numbers
returns-in-Numbers c = number_lines c.in-Numbers.column ∙ ap answer_text (sym c.in-Numbers.is)

pub returns-in-Vertices : goal.returns-in-Vertices
returns-in-Vertices c = vertex_lines c.in-Vertices.column ∙ ap answer_text (sym c.in-Vertices.is)

pub returns-in-Counts : goal.returns-in-Counts
returns-in-Counts c = number_lines c.in-Counts.column ∙ ap answer_text (sym c.in-Counts.is)
