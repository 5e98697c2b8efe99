use Rattle.std.proofs.Common.{rules}
use Rattle.cb_job_ends.specs.Texts.{joined}
use Rattle.cb_job_inputs.proofs.ReadPieces.{cut_of}
use Rattle.cb_job_inputs.proofs.pieces.Cut.of.Goals as goal

pub returns : goal.returns
returns g c =
    let o = c.in-Some.opening in
    cut_of g.S.Semiring.arithmetic c.args.text.now c.parts.result.0.now o.header o.size o.line o.entries.now (joined c.parts.result.1.now) c.args.grid.now.side c.in-Some-cut_parts.pieces.items
    c.parts.ensures c.in-Some.ensures (c.may_follow.ensures (search rules)) c.in-Some-cut_parts.ensures.all c.in-Some-cut_parts.ensures.ends
