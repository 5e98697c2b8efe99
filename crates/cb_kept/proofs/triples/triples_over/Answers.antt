use Rattle.std.proofs.Common.{rules}
use Rattle.cb_kept.proofs.triples.triples_over.Goals as goal

pub returns-in_err-block : goal.returns-in_err-block
returns-in_err-block g c = let memory = c.in_ok-shape.ensures.none.memory in search rules
