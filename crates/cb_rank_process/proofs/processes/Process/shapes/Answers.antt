use Rattle.std.proofs.Common.{◌≡◌, length, ap, ◌∙◌, arith}
use Rattle.std.proofs.lemmas.List.FromFn.{length-map-range_with_len}
use Rattle.cb_rank_process.specs.Processes.{register_at}
use Rattle.cb_rank_process.specs.Begun.{shape_in}
use Rattle.cb_rank_process.proofs.processes.Process.shapes.Goals as goal

pub returns-clause-count : goal.returns-clause-count
returns-clause-count g c =
    let last : c.loop-n.n ≡ c.args.count = omega arith in
    ap length c.loop-n.invariant.shapes ∙ length-map-range_with_len (λ i. shape_in (register_at c.args.self.now i)) 0 c.loop-n.n ∙ last
