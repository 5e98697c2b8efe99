-- The shapes and the matrices of the first registers, one register after the other.
use Rattle.std.proofs.Common.{◌≡◌, ℕ, ◌+◌, ◌<◌, ◌≤◌, List, [], ◌∷◌, ◌++◌, length, ⊎_elim, refl, sym, ap, subst, ◌∙◌, below_more, add-one, get_or, set, arith}
use Rattle.std.specs.Prelude.{Option, Some, None, IsSome}
use Rattle.std.proofs.lemmas.Bool.{cases_lt}
use Rattle.std.proofs.lemmas.List.{get_or_past, set-get_or}
use Rattle.std.proofs.lemmas.List.FromFn.{map-range_with_len_more}
use Rattle.cb_matrix.specs.Sparse.{Extent}
use Rattle.cb_rank_process.specs.Processes.{KeptView, ProcessView, given_up, register_at}
use Rattle.cb_rank_process.specs.Begun.{HaveMatrices, all_given_up, operand_shapes, shape_in}

-- the shape of one more
pub more_shapes : (x : ProcessView) (n : ℕ) (shapes : List Extent) (kept : KeptView) → shapes ≡ operand_shapes x n → register_at x n ≡ Some kept → shapes ++ kept.shape ∷ [] ≡ operand_shapes x (n + 1)
more_shapes x n shapes kept e is =
    ap (λ ds. ds ++ kept.shape ∷ []) e
    ∙ ap (λ d. operand_shapes x n ++ d ∷ []) (sym (ap shape_in is))
    ∙ sym (map-range_with_len_more (λ i. shape_in (register_at x i)) 0 n n (omega arith))

-- one more has a matrix
pub more_matrices : (x : ProcessView) (n : ℕ) (kept : KeptView) → HaveMatrices x n → register_at x n ≡ Some kept → HaveMatrices x (n + 1)
more_matrices x n kept h is =
    let here : IsSome (register_at x n) = subst (λ (o : Option KeptView). IsSome o) (sym is) refl in
    below_more (λ i. IsSome (register_at x i)) n h here

-- one of them has none
pub no_matrices : (x : ProcessView) (n i : ℕ) → i < n → register_at x i ≡ None → HaveMatrices x n → ⊥
no_matrices x n i l none h =
    let some : IsSome (register_at x i) = h i l in
    let never : IsSome {T = KeptView} None = subst (λ (o : Option KeptView). IsSome o) none some in
    cc

-- one more gives its matrix up
pub more_given_up : (n : ℕ) (all now new : List (Option KeptView)) → now ≡ all_given_up n all → new ≡ given_up n now → new ≡ all_given_up (n + 1) all
more_given_up n all now new e is = is ∙ ap (given_up n) e ∙ sym (ap (λ k. all_given_up k all) (add-one n))

-- a register that gets what it had
pub same_register : (registers : List (Option KeptView)) (n : ℕ) (kept again : KeptView) → get_or registers n None ≡ Some kept → again ≡ kept → set registers n (Some again) ≡ registers
same_register registers n kept again is same = ap (set registers n) (ap Some same ∙ sym is) ∙ set-get_or registers n None

-- a register with a matrix is one of those that there are
pub register_inside : (registers : List (Option KeptView)) (n : ℕ) → IsSome (get_or registers n None) → n < length registers
register_inside registers n some = ⊎_elim
    (λ (l : n < length registers). l)
    (λ (l : length registers ≤ n).
    let never : IsSome {T = KeptView} None = subst (λ (o : Option KeptView). IsSome o) (get_or_past registers n None l) some in
    cc)
    (cases_lt n (length registers))
