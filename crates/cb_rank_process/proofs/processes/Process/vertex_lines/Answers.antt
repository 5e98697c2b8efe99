use Rattle.std.proofs.Common.{rules}
use Rattle.cb_rank_process.specs.VertexNumbers.{WritesVertices}
use Rattle.cb_rank_process.proofs.SearchedBlocks.{writes_part}
use Rattle.cb_rank_process.proofs.processes.Process.vertex_lines.Goals as goal

pub returns-clause-part : goal.returns-clause-part
returns-clause-part g c =
    let lines : WritesVertices g.S.Semiring.arithmetic c.args.register c.args.self.now c.in_ok-text.text.items = search rules in
    writes_part g.S.Semiring.arithmetic g.met.S.Semiring.is_semiring c.args.register c.args.self.now c.in_ok-text.text.items lines
