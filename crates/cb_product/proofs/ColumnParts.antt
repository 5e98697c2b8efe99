-- A matrix in parts: the entries in some listed columns, and those in later ones.
use Rattle.std.proofs.Common.{◌≡◌, ℕ, ◌+◌, ◌<◌, true, false, true≢false, inl, Result, Ok, Err, List, ◌++◌, length, length-append, get_or, sym, refl, ap, ◌∙◌, ⊎_elim, arith, subst}
use Rattle.std.specs.Prelude.{IfOk, All, AllPairs, Contains}
use Rattle.std.proofs.lemmas.Bool.{cases_Bool, false_from_ne_true}
use Rattle.std.proofs.lemmas.List.{get_or_append_left, get_or-append-add, get_or_default}
use Rattle.std.proofs.lemmas.List.Elements.{All-weaker, Contains-append_left, Contains-append_right, Contains-append_cases, filter_passes}
use Rattle.cb_semirings.specs.Arithmetic.{Arithmetic, IsSemiring}
use Rattle.cb_matrix.specs.declared.Entry.{Entry}
use Rattle.cb_matrix.specs.Sparse.{Sparse, IsMatrix, IsBefore, is_at, at}
use Rattle.cb_matrix.proofs.Places.{is_at-parts, value_at-none, value_at-append_left, value_at-append_right}
use Rattle.cb_matrix.proofs.Made.{NoneAt}
use Rattle.cb_matrix.proofs.Equal.{matrix_is}
use Rattle.cb_dcsc.specs.Columns.{with_entries}
use Rattle.cb_dcsc.proofs.Appended.{matrix_append}
use Rattle.cb_product.specs.InColumns.{AreInColumns, is_among, only_columns}
use Rattle.cb_product.proofs.OnlyColumns.{among_from, among_holds, only_matrix, only_value, only_all}

-- each column of the first list is before each of the second
pub ahead : (xs ys : List ℕ) (c d : ℕ) → AllPairs (λ c d. c < d) (xs ++ ys) → is_among xs c ≡ true → is_among ys d ≡ true → c < d
ahead xs ys c d up x y =
    let k = among_holds xs c x in
    let m = among_holds ys d y in
    let kl = k.1 in
    let ml = m.1 in
    let long = length-append xs ys in
    let less : get_or (xs ++ ys) k.0 c < get_or (xs ++ ys) (length xs + m.0) c = up k.0 (length xs + m.0) c (omega arith) (omega arith) in
    let first : get_or (xs ++ ys) k.0 c ≡ c = get_or_append_left xs ys c k.0 kl ∙ k.2 in
    let second : get_or (xs ++ ys) (length xs + m.0) c ≡ get_or ys m.0 c = get_or-append-add xs ys m.0 c in
    let same : get_or ys m.0 c ≡ d = get_or_default ys m.0 c d ml ∙ m.2 in
    omega arith

-- a column of the second list isn't in the first
pub apart : (xs ys : List ℕ) (j : ℕ) → AllPairs (λ c d. c < d) (xs ++ ys) → is_among ys j ≡ true → is_among xs j ≡ false
apart xs ys j up y = false_from_ne_true (is_among xs j) (λ x. let l = ahead xs ys j j up x y in absurd (omega arith))

-- a column of one of them is in both, one after the other
pub among_first : (xs ys : List ℕ) (j : ℕ) → is_among xs j ≡ true → is_among (xs ++ ys) j ≡ true
among_first xs ys j h = among_from (xs ++ ys) j (Contains-append_left xs ys j (among_holds xs j h))

pub among_second : (xs ys : List ℕ) (j : ℕ) → is_among ys j ≡ true → is_among (xs ++ ys) j ≡ true
among_second xs ys j h = among_from (xs ++ ys) j (Contains-append_right xs ys j (among_holds ys j h))

-- a column of neither isn't
pub among_neither : (xs ys : List ℕ) (j : ℕ) → is_among xs j ≡ false → is_among ys j ≡ false → is_among (xs ++ ys) j ≡ false
among_neither xs ys j x y =
    false_from_ne_true (is_among (xs ++ ys) j)
    (λ both. ⊎_elim
    (λ (c : Contains xs j). true≢false (sym (among_from xs j c) ∙ x))
    (λ (c : Contains ys j). true≢false (sym (among_from ys j c) ∙ y))
    (Contains-append_cases xs ys j (among_holds (xs ++ ys) j both)))

-- entries in listed columns have no value in another column
pub none_in : (cs : List ℕ) (es : List Entry) (i j : ℕ) → All (λ e. is_among cs e.column ≡ true) es → is_among cs j ≡ false → NoneAt i j es
none_in cs es i j h f =
    All-weaker (λ e. is_among cs e.column ≡ true) (λ e. is_at i j e ≡ false)
    (λ e t. false_from_ne_true (is_at i j e) (λ here. let q = is_at-parts e i j here in absurd (true≢false (sym t ∙ ap (is_among cs) (sym q.1) ∙ f)))) es h

-- ---- the listed columns of a matrix
module _ (s : Arithmetic) (laws : IsSemiring s) (m : Sparse) (is : IsMatrix s m) where
  part_columns : (cs : List ℕ) → All (λ e. is_among cs e.column ≡ true) (only_columns cs m).entries
  part_columns cs = filter_passes (λ (e : Entry). is_among cs e.column) m.entries

  module _ (xs ys : List ℕ) (up : AllPairs (λ c d. c < d) (xs ++ ys)) where
    abbrev first : Sparse
    first = only_columns xs m

    abbrev last : Sparse
    last = only_columns ys m

    -- two adjacent parts, one appended to the other, are a matrix
    pub parts_matrix : IsMatrix s (with_entries first last.entries)
    parts_matrix =
        matrix_append s first last.entries (only_matrix s xs m is) (only_matrix s ys m is)
        (All-weaker (λ d. is_among xs d.column ≡ true) (λ d. All (IsBefore d) last.entries)
        (λ d x. All-weaker (λ e. is_among ys e.column ≡ true) (IsBefore d) (λ e y. inl (ahead xs ys d.column e.column up x y)) last.entries (part_columns ys))
        first.entries (part_columns xs))

    same_value : (i j : ℕ) → at s (with_entries first last.entries) i j ≡ at s (only_columns (xs ++ ys) m) i j
    same_value i j =
        ⊎_elim
        (λ (y : is_among ys j ≡ true).
        value_at-append_right s.zero first.entries last.entries i j (none_in xs first.entries i j (part_columns xs) (apart xs ys j up y))
        ∙ only_value s.zero ys m i j y
        ∙ sym (only_value s.zero (xs ++ ys) m i j (among_second xs ys j y)))
        (λ (n : is_among ys j ≡ false).
        value_at-append_left s.zero first.entries last.entries i j (none_in ys last.entries i j (part_columns ys) n)
        ∙ ⊎_elim
        (λ (x : is_among xs j ≡ true). only_value s.zero xs m i j x ∙ sym (only_value s.zero (xs ++ ys) m i j (among_first xs ys j x)))
        (λ (x : is_among xs j ≡ false).
        value_at-none s.zero first.entries i j (none_in xs first.entries i j (part_columns xs) x)
        ∙ sym (value_at-none s.zero (only_columns (xs ++ ys) m).entries i j (none_in (xs ++ ys) (only_columns (xs ++ ys) m).entries i j (part_columns (xs ++ ys)) (among_neither xs ys j x n))))
        (cases_Bool (is_among xs j)))
        (cases_Bool (is_among ys j))

    -- which has the columns of both
    pub parts_joined : with_entries first last.entries ≡ only_columns (xs ++ ys) m
    parts_joined =
        matrix_is s laws (with_entries first last.entries) m.shape (at s (only_columns (xs ++ ys) m)) parts_matrix refl (λ i j _ _. same_value i j)
        ∙ sym (matrix_is s laws (only_columns (xs ++ ys) m) m.shape (at s (only_columns (xs ++ ys) m)) (only_matrix s (xs ++ ys) m is) refl (λ i j _ _. refl))

    module _ (zs : List ℕ) (all : zs ≡ xs ++ ys) (front back : Sparse) (front_is : front ≡ first) (back_is : back ≡ last) where
      -- the same for matrices that equal these parts
      pub two_matrix : IsMatrix s (with_entries front back.entries)
      two_matrix = subst (λ (m : Sparse). IsMatrix s m) (sym (λ t. with_entries (front_is t) (back_is t).entries)) parts_matrix

      pub two_joined : with_entries front back.entries ≡ only_columns zs m
      two_joined = (λ t. with_entries (front_is t) (back_is t).entries) ∙ parts_joined ∙ ap (λ cs. only_columns cs m) (sym all)

-- with all nonempty columns listed, the part is the whole
pub whole_part : {E : Type 0} (m n : Sparse) (cs : List ℕ) (result : Result Sparse E) → AreInColumns cs m.entries → m ≡ n → IfOk result (λ r. r ≡ only_columns cs m) → IfOk result (λ r. r ≡ n)
whole_part m n cs (Ok r) all same h = h ∙ only_all cs m all ∙ same
whole_part m n cs (Err x) all same h = tt
