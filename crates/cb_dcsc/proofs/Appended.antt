-- Entries added after all those of a block: of one column, and of all columns of another block.
use Rattle.std.proofs.Common.{◌≡◌, ◌≢◌, ℕ, zero, suc, ◌+◌, ◌<◌, List, [], ◌∷◌, ◌++◌, length, take, drop, get_or, sym, refl, ap, ◌∙◌, subst, arith, length-take, append_assoc}
use Rattle.std.specs.Prelude.{All}
use Rattle.std.proofs.lemmas.List.{append-nil, take_more, take-append-drop}
use Rattle.std.proofs.lemmas.List.Elements.{All-append}
use Rattle.cb_semirings.specs.Arithmetic.{Arithmetic, IsValue}
use Rattle.cb_matrix.specs.declared.Entry.{Entry}
use Rattle.cb_matrix.specs.Sparse.{Extent, Sparse, IsMatrix, IsBefore, IsInside}
use Rattle.cb_matrix.proofs.Pairs.{AllPairs-append, AllPairs-front, AllPairs-last, All-front, All-last}
use Rattle.cb_dcsc.specs.Compressed.{entries_in, pieces, with_column}
use Rattle.cb_dcsc.specs.Columns.{with_entries}
use Rattle.cb_dcsc.proofs.ColumnEntries.{entries_in-push}

-- ---- matrices
-- entries of two matrices of a shape, of which each of the first comes before each of the second, are one matrix
pub matrix_append : (s : Arithmetic) (m : Sparse) (es : List Entry) → IsMatrix s m → IsMatrix s (record { shape = m.shape; entries = es }) → All (λ d. All (IsBefore d) es) m.entries → IsMatrix s (with_entries m es)
matrix_append s m es a b before = record {
  ascending = AllPairs-append IsBefore m.entries es a.ascending b.ascending before;
  inside = All-append (IsInside m.shape) m.entries es a.inside b.inside;
  values = All-append (λ e. IsValue s e.value) m.entries es a.values b.values;
  not_zero = All-append (λ e. e.value ≢ s.zero) m.entries es a.not_zero b.not_zero;
}

-- the first entries of a matrix are one
pub matrix_front : (s : Arithmetic) (shape : Extent) (es fs : List Entry) → IsMatrix s (record { shape = shape; entries = es ++ fs }) → IsMatrix s (record { shape = shape; entries = es })
matrix_front s shape es fs is = record {
  ascending = AllPairs-front IsBefore es fs is.ascending;
  inside = All-front (IsInside shape) es fs is.inside;
  values = All-front (λ e. IsValue s e.value) es fs is.values;
  not_zero = All-front (λ e. e.value ≢ s.zero) es fs is.not_zero;
}

-- what is owed where an entry is pushed
pub record IsNext (s : Arithmetic) (m : Sparse) (e : Entry) : Type 0 where
  pub inside : IsInside m.shape e
  pub order : All (λ d. IsBefore d e) m.entries
  pub value : IsValue s e.value
  pub not_zero : e.value ≢ s.zero

-- it holds of the last entry of a matrix, after the others
last_is_next : (s : Arithmetic) (m : Sparse) (e : Entry) → IsMatrix s (record { shape = m.shape; entries = m.entries ++ e ∷ [] }) → IsNext s m e
last_is_next s m e is = record {
  inside = All-last (IsInside m.shape) m.entries e is.inside;
  order = AllPairs-last IsBefore m.entries e is.ascending;
  value = All-last (λ d. IsValue s d.value) m.entries e is.values;
  not_zero = All-last (λ d. d.value ≢ s.zero) m.entries e is.not_zero;
}

-- ---- one column
-- a column in two parts
entries_in-append : (j : ℕ) (is vs is' vs' : List ℕ) → length vs ≡ length is → entries_in j (is ++ is') (vs ++ vs') ≡ entries_in j is vs ++ entries_in j is' vs'
unfolding entries_in
entries_in-append j [] [] is' vs' e = refl
entries_in-append j [] (v ∷ vs) is' vs' e = absurd (omega arith)
entries_in-append j (i ∷ is) [] is' vs' e = absurd (omega arith)
entries_in-append j (i ∷ is) (v ∷ vs) is' vs' e = ap (λ es. record { row = i; column = j; value = v } ∷ es) (entries_in-append j is vs is' vs' (omega arith))

-- entry n of a column comes after those before it
pub next_in_column : (s : Arithmetic) (m now : Sparse) (j : ℕ) (is vs : List ℕ) (n : ℕ) → length vs ≡ length is → n < length is → IsMatrix s (with_column m j is vs)
    → now.shape ≡ m.shape → now.entries ≡ m.entries ++ entries_in j (take n is) (take n vs) → IsNext s now (record { row = get_or is n 0; column = j; value = get_or vs n 0 })
next_in_column s m now j is vs n e l matrix shapes was =
    let next : Entry = record { row = get_or is n 0; column = j; value = get_or vs n 0 } in
    let l' : n < length vs = omega arith in
    let same : length (take n vs) ≡ length (take n is) = simp length-take (omega arith) in
    let same' : length (take (n + 1) vs) ≡ length (take (n + 1) is) = simp length-take (omega arith) in
    let rest = entries_in j (drop (n + 1) is) (drop (n + 1) vs) in
    let parts : entries_in j is vs ≡ entries_in j (take (n + 1) is) (take (n + 1) vs) ++ rest =
    (λ t. entries_in j (sym (take-append-drop (n + 1) is) t) (sym (take-append-drop (n + 1) vs) t)) ∙ entries_in-append j (take (n + 1) is) (take (n + 1) vs) (drop (n + 1) is) (drop (n + 1) vs) same' in
    let one : entries_in j (take (n + 1) is) (take (n + 1) vs) ≡ entries_in j (take n is) (take n vs) ++ next ∷ [] =
    (λ t. entries_in j (take_more is n 0 l t) (take_more vs n 0 l' t)) ∙ entries_in-push j (take n is) (take n vs) (get_or is n 0) (get_or vs n 0) same in
    let all : m.entries ++ entries_in j is vs ≡ (now.entries ++ next ∷ []) ++ rest =
    ap (λ es. m.entries ++ es) (parts ∙ ap (λ es. es ++ rest) one)
    ∙ sym (append_assoc m.entries (entries_in j (take n is) (take n vs) ++ next ∷ []) rest)
    ∙ ap (λ es. es ++ rest) (sym (append_assoc m.entries (entries_in j (take n is) (take n vs)) (next ∷ [])) ∙ ap (λ es. es ++ next ∷ []) (sym was)) in
    let here : IsMatrix s (record { shape = now.shape; entries = (now.entries ++ next ∷ []) ++ rest }) =
    subst (λ (x : Sparse). IsMatrix s x) (λ t. record { shape = sym shapes t; entries = all t }) matrix in
    last_is_next s now next (matrix_front s now.shape (now.entries ++ next ∷ []) rest here)

-- ---- all columns
-- the entries of the first columns are the first entries
pub pieces_front : (f : ℕ → List Entry) (n k count : ℕ) → count ≡ k + n → (rest : List Entry) × (pieces f count ≡ pieces f n ++ rest)
unfolding pieces
pieces_front f n zero count e = let same : count ≡ n = omega arith in ([], ap (pieces f) same ∙ sym (append-nil (pieces f n)))
pieces_front f n (suc k) count e =
    let h = pieces_front f n k (k + n) refl in
    let next : count ≡ suc (k + n) = omega arith in
    (h.0 ++ f (k + n), ap (pieces f) next ∙ ap (λ es. es ++ f (k + n)) h.1 ∙ append_assoc (pieces f n) h.0 (f (k + n)))
