use Rattle.cb_job_graphs.proofs.graph_answers.answer_over.Goals as goal

pub returns-in-Nothing : goal.returns-in-Nothing
returns-in-Nothing g c = rw (← c.beside.ensures) (rw c.in-Nothing.is c.answer_alone.ensures)

pub returns-in-Sources : goal.returns-in-Sources
returns-in-Sources g c = rw (← c.beside.ensures) (rw c.in-Sources.is c.answer_from.ensures)

pub returns-in-Values : goal.returns-in-Values
returns-in-Values g c = rw (← c.beside.ensures) (rw c.in-Values.is c.answer_given.ensures)
