use Rattle.std.proofs.Common.{◌≡◌, ◌++◌, sym, ap, ◌∙◌, subst}
use Rattle.std.proofs.lemmas.List.{take-append-drop, take_rest}
use Rattle.cb_matrix.specs.Sparse.{IsMatrix, Sparse}
use Rattle.cb_block_tests.proofs.dcsc.is_appended.Goals as goal

pub append-requires-clause-matrix : goal.append-requires-clause-matrix
append-requires-clause-matrix c =
    let front = c.in_ok-front.ensures.entries in
    let back = ap (λ (m : Sparse). m.entries) c.in_ok-reserve.ensures.same ∙ c.in_ok-back.ensures.entries ∙ take_rest c.args.entries.now c.args.place in
    let entries : c.in_ok-front.front.entries ++ c.reserve.new.self.entries ≡ c.in_ok-whole.whole.entries = (λ i. front i ++ back i) ∙ take-append-drop c.args.place c.args.entries.now ∙ sym c.in_ok-whole.ensures.entries in
    let shape : c.in_ok-front.front.shape ≡ c.in_ok-whole.whole.shape = c.in_ok-front.ensures.shape ∙ sym c.in_ok-whole.ensures.shape in
    subst (IsMatrix _) (sym (λ i. record { shape = shape i; entries = entries i })) c.shape-shape.ensures.matrix
