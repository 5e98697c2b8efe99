use Rattle.std.proofs.Common.{◌≡◌, List, ℕ, ◌++◌, ap, rules, subst}
use Rattle.std.specs.Prelude.{string_bytes}
use Rattle.cb_layout.specs.Distributed.{Distributed}
use Rattle.cb_job_ends.specs.WriteEnds.{IsTextEnd}
use Rattle.cb_job_output.proofs.BaseTexts.{text_too}
use Rattle.cb_job_output.proofs.answers.put_answer.Goals as goal

pub returns-in_ok-matrix-in-Matrix : goal.returns-in_ok-matrix-in-Matrix
returns-in_ok-matrix-in-Matrix g c =
    let put = c.put_matrix in
    let written = g.K.Sink.written in
    let has = (g.met.S.Based g.world.𝓛 g.world.𝓜 g.world.𝓡 ((λ s x. x), (λ x. x), (λ x. x), λ x. x)).has_base in
    let same = text_too g.S.Semiring.arithmetic g.S.Base.Semiring.arithmetic has c.in-Matrix.matrix c.in_ok-matrix-in-Matrix.matrix c.in_ok-matrix-in-Matrix.ensures in
    rw c.in-Matrix.is (subst (λ (t : List ℕ). IsTextEnd t (written c.args.out.now) (written put.new.out) (g.K.Sink.has_failed put.new.out) put.result) same put.ensures)

pub returns-in_ok-matrix-in-Blocks : goal.returns-in_ok-matrix-in-Blocks
returns-in_ok-matrix-in-Blocks g c =
    let put = c.put_blocks_and_lines in
    let written = g.K.Sink.written in
    let matrix = ap (λ (m : Distributed). m.matrix) c.in_ok-matrix-in-Blocks.ensures in
    let has = (g.met.S.Based g.world.𝓛 g.world.𝓜 g.world.𝓡 ((λ s x. x), (λ x. x), (λ x. x), λ x. x)).has_base in
    let same = text_too g.S.Semiring.arithmetic g.S.Base.Semiring.arithmetic has c.in-Blocks.matrix.matrix c.in_ok-matrix-in-Blocks.matrix.matrix matrix in
    let lines : string_bytes c.in-Blocks.lines ≡ c.as_bytes.result.now = search rules in
    rw (c.in-Blocks.is, lines) (subst (λ (t : List ℕ). IsTextEnd (t ++ c.as_bytes.result.now) (written c.args.out.now) (written put.new.out) (g.K.Sink.has_failed put.new.out) put.result) same put.ensures)
