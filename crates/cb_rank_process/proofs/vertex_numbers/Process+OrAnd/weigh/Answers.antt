use Rattle.std.proofs.Common.{◌≡◌, ◌<◌, rules, sym, ap, ◌∙◌, arith}
use Rattle.std.proofs.lemmas.Option.{same_Some}
use Rattle.cb_matrix.specs.Sparse.{Sparse}
use Rattle.cb_searches.specs.Walks.{infinite}
use Rattle.cb_rank_process.specs.Processes.{KeptView}
use Rattle.cb_rank_process.specs.VertexNumbers.{Weighs}
use Rattle.cb_rank_process.proofs.SearchedBlocks.{weighs_bits}
use Rattle.cb_rank_process.proofs.TextParts.{put_again}
use Rattle.cb_rank_process.proofs.vertex_numbers.Process+OrAnd.weigh.Goals as goal

pub returns-in-Ok-clause-bits : goal.returns-in-Ok-clause-bits
returns-in-Ok-clause-bits c =
    let h : Weighs c.args.register c.args.self.now c.args.weights.now c.put.new.self = search rules in
    weighs_bits c.args.register c.args.self.now c.args.weights.now c.put.new.self h
    (λ k e.
    let same : k ≡ c.in-Some.kept = same_Some k c.in-Some.kept (sym e ∙ c.in-Some.ensures.kept) in
    let rows : c.kept.inside.shape.rows ≡ k.shape.rows = ap (λ (n : KeptView). n.shape.rows) (c.kept.view_is ∙ sym same) in
    omega arith)

pub returns-in-Err-clause-unchanged : goal.returns-in-Err-clause-unchanged
returns-in-Err-clause-unchanged c =
    let back : c.in-Err.block ≡ c.kept.inside.block = search rules in
    let same = ap (λ (b : Sparse). let k : KeptView = record { shape = c.kept.inside.shape; block = b } in k) back ∙ c.kept.view_is in
    put_again c.args.self.now c.take_out.new.self c.put-in-Err.new.self c.args.register c.in-Some.kept _ c.in-Some.ensures.kept c.in-Some.ensures.given_up same c.put-in-Err.ensures
