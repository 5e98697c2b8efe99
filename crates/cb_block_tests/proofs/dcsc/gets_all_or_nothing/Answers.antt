use Rattle.std.proofs.Common.{◌≡◌, ◌++◌, sym, ◌∙◌, subst}
use Rattle.std.proofs.lemmas.List.{take-append-drop, take_rest}
use Rattle.cb_matrix.specs.Sparse.{IsMatrix}
use Rattle.cb_block_tests.proofs.dcsc.gets_all_or_nothing.Goals as goal

pub is_granted-requires-clause-matrix : goal.is_granted-requires-clause-matrix
is_granted-requires-clause-matrix c =
    let front = c.in_ok-front.ensures.entries in
    let back = c.in_ok-back.ensures.entries ∙ take_rest c.args.entries.now c.args.place in
    let entries : c.in_ok-front.front.entries ++ c.in_ok-back.back.entries ≡ c.in_ok-whole.whole.entries = (λ i. front i ++ back i) ∙ take-append-drop c.args.place c.args.entries.now ∙ sym c.in_ok-whole.ensures.entries in
    let shape : c.in_ok-front.front.shape ≡ c.in_ok-whole.whole.shape = c.in_ok-front.ensures.shape ∙ sym c.in_ok-whole.ensures.shape in
    subst (IsMatrix _) (sym (λ i. record { shape = shape i; entries = entries i })) c.shape-shape.ensures.matrix
