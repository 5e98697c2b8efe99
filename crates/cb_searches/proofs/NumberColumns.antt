-- The known numbers as a column.
use Rattle.std.proofs.Common.{◌≡◌, ◌≢◌, ℕ, ◌+◌, ◌^◌, ◌<◌, ◌≤◌, Bool, cond, ⊎_elim, inl, inr, length, add-one, List, [], ◌∷◌, ◌++◌, map, subst, sym, refl, ap, ◌∙◌, arith}
use Rattle.std.specs.Prelude.{All, AllPairs, unwrap_or, slice_index_or, ◌==◌}
use Rattle.std.specs.Prelude.{Some}
use Rattle.std.specs.Ordering.{nat_cmp, is_eq}
use Rattle.std.specs.declared.cmp.Ordering.TheVariants.{Less}
use Rattle.std.specs.BTreeMap.{BTreeMap, IsOrdered, get}
use Rattle.std.specs.List.{AllByRecursion}
use Rattle.std.specs.List.Sorted.{IsStrictlySortedBy}
use Rattle.std.specs.Map.{keys_of, lookup}
use Rattle.std.proofs.lemmas.Bool.{cond-true, cond-false, eq-eqb, cases_lt}
use Rattle.std.proofs.lemmas.Cmp.{nat_cmp_total}
use Rattle.std.proofs.lemmas.Bool.Decides.{nat_tests}
use Rattle.std.proofs.lemmas.List.{append-nil, get_or_default, get_or_past}
use Rattle.std.proofs.lemmas.Map.Views.{All-found}
use Rattle.std.proofs.lemmas.List.Elements.{All-cons, All-nil, All-map, All-weaker}
use Rattle.cb_semirings.specs.Tables.{min_plus}
use Rattle.cb_matrix.specs.declared.Entry.{Entry}
use Rattle.cb_matrix.specs.Sparse.{Sparse, Extent, IsMatrix, IsBefore, IsInside, value_at}
use Rattle.cb_matrix.specs.Values.{column_of, columns_of, matrix_of}
use Rattle.cb_matrix.proofs.Made.{IsMatrix-matrix_of, at-matrix_of, at-outside}
use Rattle.cb_matrix.proofs.Pairs.{AllPairs-cons, AllPairs-nil}
use Rattle.cb_matrix.proofs.Places.{is_at-own}
use Rattle.cb_searches.specs.declared.numbers.Numbers.TheVariants.{Tree}
use Rattle.cb_searches.specs.Walks.{infinite}
use Rattle.cb_searches.specs.Numbers.{number_at, AreNumbers, number_entry}
use Rattle.cb_searches.proofs.TakenNumbers.{eq_cases, ne-eqb, other_row}

less_from : (x y : ℕ) → nat_cmp x y ≡ Less → x < y
less_from x y h = grind (arith, nat_tests)

-- an ascending list of vertices
all_above : (x : ℕ) (ps : List (ℕ × ℕ)) → AllByRecursion (λ y. nat_cmp x y ≡ Less) (keys_of ps) → (n : ℕ) → All (IsBefore (number_entry (x, n))) (map number_entry ps)
all_above x [] h n = All-nil (IsBefore (number_entry (x, n)))
all_above x (p ∷ ps) h n = All-cons (IsBefore (number_entry (x, n))) (number_entry p) (map number_entry ps) (inr (refl, less_from x p.0 h.0)) (all_above x ps h.1 n)

ascends : (ps : List (ℕ × ℕ)) → IsStrictlySortedBy nat_cmp (keys_of ps) → AllPairs IsBefore (map number_entry ps)
unfolding IsStrictlySortedBy
ascends [] h = AllPairs-nil IsBefore
ascends (p ∷ ps) h = AllPairs-cons IsBefore (number_entry p) (map number_entry ps) (all_above p.0 ps h.0 p.1) (ascends ps h.1)

value_of : (ps : List (ℕ × ℕ)) (v : ℕ) → value_at infinite (map number_entry ps) v 0 ≡ unwrap_or (lookup (λ q. is_eq (nat_cmp v q)) ps) infinite
unfolding value_at
value_of [] v = refl
value_of (p ∷ ps) v =
    elim (eq_cases v p.0) as (λ _. value_at infinite (map number_entry (p ∷ ps)) v 0 ≡ unwrap_or (lookup (λ q. is_eq (nat_cmp v q)) (p ∷ ps)) infinite) [
      | inl h ↦ cond-true _ _ _ (is_at-own (number_entry p) v 0 h.1 refl) ∙ sym (ap (λ o. unwrap_or o infinite) (cond-true _ _ _ h.0))
      | inr h ↦ cond-false _ _ _ (other_row v (number_entry p) h.1) ∙ value_of ps v ∙ sym (ap (λ o. unwrap_or o infinite) (cond-false _ _ _ h.0))
    ]

module _ (shape : Extent) (one : shape.cols ≡ 1) (known : BTreeMap ℕ ℕ) (ordered : IsOrdered nat_cmp known) (finite : AreNumbers shape.rows (Tree known)) (es : List Entry) (same : es ≡ map number_entry known.entries) where
  each : (P : Entry → Type 0) → ((v x : ℕ) → v < shape.rows → x < infinite → P (number_entry (v, x))) → All P es
  each P h = subst (λ (xs : List Entry). All P xs) (sym same) (All-map P number_entry known.entries (All-weaker (λ (p : ℕ × ℕ). get nat_cmp known p.0 ≡ Some p.1) (λ (p : ℕ × ℕ). P (number_entry p)) (λ p e. let k = finite p.0 p.1 e in h p.0 p.1 k.0 k.1) known.entries (All-found nat_cmp_total known ordered)))

  -- the numbers of a map, as the entries of a column, are a matrix
  pub column_matrix : IsMatrix min_plus (record { shape = shape; entries = es })
  column_matrix = record {
    ascending = subst (λ (xs : List Entry). AllPairs IsBefore xs) (sym same) (ascends known.entries ordered);
    inside = each (IsInside shape) (λ v x l _. (l, omega arith));
    values = each (λ e. e.value < 2 ^ 64) (λ v x _ l. omega arith);
    not_zero = each (λ e. e.value ≢ infinite) (λ v x _ l e. omega arith);
  }

  -- at each vertex it has the vertex's number
  pub column_value : (v : ℕ) → value_at infinite es v 0 ≡ number_at (Tree known) v
  column_value v = ap (λ (xs : List Entry). value_at infinite xs v 0) same ∙ value_of known.entries v

-- when the whole map has been visited
pub all_listed : (known : BTreeMap ℕ ℕ) (es : List Entry) (left : List (ℕ × ℕ)) → es ++ map number_entry left ≡ map number_entry known.entries → left ≡ [] → es ≡ map number_entry known.entries
all_listed known es left h none = sym (append-nil es) ∙ ap (λ (ps : List (ℕ × ℕ)). es ++ map number_entry ps) (sym none) ∙ h

-- the first places of a column, an entry for each number that isn't infinite
abbrev pub first_numbers : (ℕ → ℕ) → ℕ → List Entry
first_numbers f i = column_of infinite (λ v _. f v) 0 i

-- none at first
pub first_none : (f : ℕ → ℕ) → first_numbers f 0 ≡ []
unfolding column_of
first_none f = refl

next_number : (f : ℕ → ℕ) (i : ℕ) → first_numbers f (i + 1) ≡ first_numbers f i ++ cond (f i == infinite) [] (number_entry (i, f i) ∷ [])
unfolding column_of
next_number f i = ap (first_numbers f) (add-one i)

module _ (f : ℕ → ℕ) (i : ℕ) (es now : List Entry) (before : es ≡ first_numbers f i) where
  -- a finite number is added
  pub number_kept : (x : ℕ) → x ≡ f i → x ≢ infinite → now ≡ es ++ number_entry (i, x) ∷ [] → now ≡ first_numbers f (i + 1)
  number_kept x value n e =
      e ∙ ap (λ (xs : List Entry). xs ++ number_entry (i, x) ∷ []) before ∙ ap (λ (y : ℕ). first_numbers f i ++ number_entry (i, y) ∷ []) value
      ∙ sym (next_number f i ∙ ap (λ (b : Bool). first_numbers f i ++ cond b [] (number_entry (i, f i) ∷ [])) (ne-eqb (f i) infinite (λ q. n (value ∙ q))))

  -- an infinite one is left out
  pub number_passed : f i ≡ infinite → now ≡ es → now ≡ first_numbers f (i + 1)
  number_passed n e =
      e ∙ before ∙ sym (next_number f i ∙ ap (λ (b : Bool). first_numbers f i ++ cond b [] (number_entry (i, f i) ∷ [])) (eq-eqb (f i) infinite n) ∙ append-nil (first_numbers f i))

-- a number in a list is at most infinite
pub listed_fits : (list : List ℕ) → ((i : ℕ) → slice_index_or list i 0 < 2 ^ 64) → (v : ℕ) → slice_index_or list v infinite ≤ infinite
listed_fits list small v =
    ⊎_elim
    (λ (l : v < length list). let e = get_or_default list v 0 infinite l in let h = small v in omega (arith, e))
    (λ (l : length list ≤ v). let e = get_or_past list v infinite l in omega (arith, e))
    (cases_lt v (length list))

-- past its end it is infinite
pub listed_past : (list : List ℕ) (n : ℕ) → length list ≡ n → (v : ℕ) → n ≤ v → slice_index_or list v infinite ≡ infinite
listed_past list n len v l = get_or_past list v infinite (omega arith)

module _ (shape : Extent) (one : shape.cols ≡ 1) (f : ℕ → ℕ) (fits : (v : ℕ) → f v ≤ infinite) (past : (v : ℕ) → shape.rows ≤ v → f v ≡ infinite) (i : ℕ) (end : shape.rows ≤ i) (far : i ≤ shape.rows) (es : List Entry) (same : es ≡ first_numbers f i) where
  abbrev numbers : Sparse
  numbers = matrix_of min_plus shape (λ v _. f v)

  numbers_are : IsMatrix min_plus numbers
  numbers_are = IsMatrix-matrix_of min_plus shape (λ v _. f v) (λ v _ _ _. let h = fits v in omega arith)

  all_entries : es ≡ numbers.entries
  unfolding columns_of
  all_entries =
      let h : i ≡ shape.rows = omega arith in
      same ∙ ap (first_numbers f) h ∙ ap (λ (n : ℕ). columns_of infinite (λ v _. f v) shape.rows n) (sym one)

  -- when all places have been visited, the entries are a matrix
  pub numbers_matrix : IsMatrix min_plus (record { shape = shape; entries = es })
  numbers_matrix = subst (λ (xs : List Entry). IsMatrix min_plus (record { shape = shape; entries = xs })) (sym all_entries) numbers_are

  -- at each vertex it has the vertex's number
  pub numbers_value : (v : ℕ) → value_at infinite es v 0 ≡ f v
  numbers_value v =
      ap (λ (xs : List Entry). value_at infinite xs v 0) all_entries
      ∙ ⊎_elim
      (λ (l : v < shape.rows). at-matrix_of min_plus shape (λ v _. f v) v 0 l (omega arith))
      (λ (l : shape.rows ≤ v). at-outside infinite shape numbers.entries v 0 numbers_are.inside (λ k _. omega arith) ∙ sym (past v l))
      (cases_lt v shape.rows)
