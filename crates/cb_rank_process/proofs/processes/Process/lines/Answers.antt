use Rattle.std.proofs.Common.{◌≡◌, rules, ap, ◌∙◌}
use Rattle.cb_matrix.specs.Sparse.{Sparse}
use Rattle.cb_rank_process.specs.Processes.{KeptView}
use Rattle.cb_rank_process.proofs.TextParts.{put_again}
use Rattle.cb_rank_process.proofs.processes.Process.lines.Goals as goal

pub returns-in-Err-clause-unchanged : goal.returns-in-Err-clause-unchanged
returns-in-Err-clause-unchanged g c =
    let back : c.in-Err.block ≡ c.kept.inside.block = search rules in
    let same = ap (λ (b : Sparse). let k : KeptView = record { shape = c.kept.inside.shape; block = b } in k) back ∙ c.kept.view_is in
    put_again c.args.self.now c.take_out.new.self c.put.new.self c.args.register c.in-Some.kept _ c.in-Some.ensures.kept c.in-Some.ensures.given_up same c.put.ensures
