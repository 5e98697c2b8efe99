-- A column whose rows in a range are replaced by those of another column.
use Rattle.std.proofs.Common.{◌≡◌, ◌≢◌, ℕ, ◌+◌, ◌-◌, ◌<◌, ◌≤◌, cond, List, [], ◌∷◌, ◌++◌, length, map, take, drop, sym, refl, ap, ◌∙◌, ⊎_elim, arith, subst, length-drop, length-append}
use Rattle.std.specs.Prelude.{All, AllPairs, ◌==◌}
use Rattle.std.proofs.lemmas.Bool.{cases_lt, cases_eq, cond-true, cond-false, eq-eqb, ne_eqb}
use Rattle.std.proofs.lemmas.List.{take-append-drop, get_or-take, get_or-drop, length-take-le, length-map}
use Rattle.std.proofs.lemmas.List.Elements.{All-head, All-tail, All-take, All-drop, All-append, All-map, All-weaker, All-get_or, All-from_get_or}
use Rattle.cb_semirings.specs.Arithmetic.{Arithmetic, IsValue}
use Rattle.cb_matrix.proofs.Pairs.{AllPairs-nil, AllPairs-head, AllPairs-tail, AllPairs-cons, AllPairs-append, AllPairs-front, AllPairs-drop}
use Rattle.cb_dcsc.specs.Columns.{row_value}
use Rattle.cb_dcsc.proofs.Lookup.{row_value-absent}
use Rattle.cb_product.specs.SparseColumn.{IsSparseColumn}
use Rattle.cb_reshape.proofs.Within.{row_in, row_out}
use Rattle.cb_selections.specs.Extracted.{is_between}
use Rattle.cb_selections.specs.KernelSteps.{IsFirstFrom, HasRowsReplaced}

-- the numbers below a higher bound are no fewer
pub first_order : (ns : List ℕ) (c d n m : ℕ) → c ≤ d → IsFirstFrom ns c n → IsFirstFrom ns d m → n ≤ m
first_order ns c d n m order low high = ⊎_elim
    (λ (l : m < n). let w = low.within in let a = low.below m l in let b = high.from m (omega arith) (omega arith) in absurd (omega arith))
    (λ (l : n ≤ m). l)
    (cases_lt m n)

-- ---- the value of two columns, one behind the other
-- at a row that the second one doesn't have
in_front : (z : ℕ) (rs vs more others : List ℕ) (i : ℕ) → length vs ≡ length rs → All (λ r. r ≢ i) more → row_value z (rs ++ more) (vs ++ others) i ≡ row_value z rs vs i
unfolding row_value
in_front z [] [] more others i long n = row_value-absent z more others i (λ k l. All-get_or (λ r. r ≢ i) more k 0 l n)
in_front z [] (v ∷ vs) more others i long n = absurd (omega arith)
in_front z (r ∷ rs) [] more others i long n = absurd (omega arith)
in_front z (r ∷ rs) (v ∷ vs) more others i long n = ap (cond (r == i) v) (in_front z rs vs more others i (omega arith) n)

-- at a row that the first one doesn't have
behind : (z : ℕ) (rs vs more others : List ℕ) (i : ℕ) → length vs ≡ length rs → All (λ r. r ≢ i) rs → row_value z (rs ++ more) (vs ++ others) i ≡ row_value z more others i
unfolding row_value
behind z [] [] more others i long n = refl
behind z [] (v ∷ vs) more others i long n = absurd (omega arith)
behind z (r ∷ rs) [] more others i long n = absurd (omega arith)
behind z (r ∷ rs) (v ∷ vs) more others i long n =
    cond-false (r == i) v (row_value z (rs ++ more) (vs ++ others) i) (ne_eqb r i (All-head (λ r. r ≢ i) r rs n)) ∙ behind z rs vs more others i (omega arith) (All-tail (λ r. r ≢ i) r rs n)

-- ---- rows that are moved
moved_same : (r top i : ℕ) → top ≤ i → (r + top == i) ≡ (r == i - top)
moved_same r top i l = ⊎_elim
    (λ (e : r ≡ i - top). eq-eqb (r + top) i (omega arith) ∙ sym (eq-eqb r (i - top) e))
    (λ (n : r ≡ i - top → ⊥). ne_eqb (r + top) i (λ e. n (omega arith)) ∙ sym (ne_eqb r (i - top) n))
    (cases_eq r (i - top))

moved_value : (z top : ℕ) (rs vs : List ℕ) (i : ℕ) → top ≤ i → row_value z (map (λ r. r + top) rs) vs i ≡ row_value z rs vs (i - top)
unfolding row_value
moved_value z top [] vs i l = refl
moved_value z top (r ∷ rs) [] i l = refl
moved_value z top (r ∷ rs) (v ∷ vs) i l = λ t. cond (moved_same r top i l t) v (moved_value z top rs vs i l t)

moved_ascends : (top : ℕ) (rs : List ℕ) → AllPairs (λ i j. i < j) rs → AllPairs (λ i j. i < j) (map (λ r. r + top) rs)
moved_ascends top [] up = AllPairs-nil (λ i j. i < j)
moved_ascends top (r ∷ rs) up =
    AllPairs-cons (λ i j. i < j) (r + top) (map (λ r. r + top) rs)
    (All-map (λ i. r + top < i) (λ r. r + top) rs (All-weaker (λ i. r < i) (λ i. r + top < i + top) (λ i l. omega arith) rs (AllPairs-head (λ i j. i < j) r rs up)))
    (moved_ascends top rs (AllPairs-tail (λ i j. i < j) r rs up))

module _ (s : Arithmetic) (range : ℕ × ℕ) (rows values others other_values : List ℕ) (own : IsSparseColumn s rows values) (other : IsSparseColumn s others other_values) (order : range.0 ≤ range.1) (inside : All (λ i. i < range.1 - range.0) others) (start end : ℕ) (first : IsFirstFrom rows range.0 start) (last : IsFirstFrom rows range.1 end) where
  front : All (λ r. r < range.0) (take start rows)
  front = All-from_get_or (λ r. r < range.0) (take start rows) 0 (λ k l.
      let size = length-take-le start rows first.within in
      let b : k < start = omega arith in
      subst (λ r. r < range.0) (sym (get_or-take start rows k 0 b)) (first.below k b))

  past : (bound n : ℕ) → IsFirstFrom rows bound n → All (λ r. bound ≤ r) (drop n rows)
  past bound n is = All-from_get_or (λ r. bound ≤ r) (drop n rows) 0 (λ k l.
      let size = length-drop n rows in
      subst (λ r. bound ≤ r) (sym (get_or-drop n rows k 0)) (is.from (n + k) (omega arith) (omega arith)))

  abbrev moved : List ℕ
  moved = map (λ r. r + range.0) others

  from_first : All (λ r. range.0 ≤ r) moved
  from_first = All-map (λ r. range.0 ≤ r) (λ r. r + range.0) others (All-weaker (λ i. i < range.1 - range.0) (λ r. range.0 ≤ r + range.0) (λ r l. omega arith) others inside)

  before_end : All (λ r. r < range.1) moved
  before_end = All-map (λ r. r < range.1) (λ r. r + range.0) others (All-weaker (λ i. i < range.1 - range.0) (λ r. r + range.0 < range.1) (λ r l. omega arith) others inside)

  -- rows in front of the range, those of the range, and those behind it
  abbrev pub all_rows : List ℕ
  all_rows = take start rows ++ (moved ++ drop end rows)

  abbrev pub all_values : List ℕ
  all_values = take start values ++ (other_values ++ drop end values)

  front_long : length (take start values) ≡ length (take start rows)
  front_long = let w = first.within in let e = own.same_length in let p = length-take-le start rows w in let q = length-take-le start values (omega arith) in omega arith

  moved_long : length other_values ≡ length moved
  moved_long = other.same_length ∙ sym (length-map others (λ r. r + range.0))

  back_long : length (drop end values) ≡ length (drop end rows)
  back_long = let e = own.same_length in let p = length-drop end rows in let q = length-drop end values in omega arith

  -- they are a column
  pub replaced_column : IsSparseColumn s all_rows all_values
  replaced_column = record {
    same_length = let a = front_long in let b = moved_long in let c = back_long in simp length-append (omega arith);
    ascending = AllPairs-append (λ i j. i < j) (take start rows) (moved ++ drop end rows)
        (AllPairs-front (λ i j. i < j) (take start rows) (drop start rows) (subst (AllPairs (λ i j. i < j)) (sym (take-append-drop start rows)) own.ascending))
        (AllPairs-append (λ i j. i < j) moved (drop end rows) (moved_ascends range.0 others other.ascending) (AllPairs-drop (λ i j. i < j) end rows own.ascending)
        (All-weaker (λ r. r < range.1) (λ r. All (λ q. r < q) (drop end rows)) (λ r l. All-weaker (λ q. range.1 ≤ q) (λ q. r < q) (λ q m. omega arith) (drop end rows) (past range.1 end last)) moved before_end))
        (All-weaker (λ r. r < range.0) (λ r. All (λ q. r < q) (moved ++ drop end rows))
        (λ r l. All-append (λ q. r < q) moved (drop end rows) (All-weaker (λ q. range.0 ≤ q) (λ q. r < q) (λ q m. omega arith) moved from_first) (All-weaker (λ q. range.1 ≤ q) (λ q. r < q) (λ q m. omega arith) (drop end rows) (past range.1 end last)))
        (take start rows) front);
    are_values = All-append (IsValue s) (take start values) (other_values ++ drop end values) (All-take (IsValue s) start values own.are_values) (All-append (IsValue s) other_values (drop end values) other.are_values (All-drop (IsValue s) end values own.are_values));
    not_zero = All-append (λ v. v ≢ s.zero) (take start values) (other_values ++ drop end values) (All-take (λ v. v ≢ s.zero) start values own.not_zero) (All-append (λ v. v ≢ s.zero) other_values (drop end values) other.not_zero (All-drop (λ v. v ≢ s.zero) end values own.not_zero));
  }

  -- what a row in front of the range has
  above : (i : ℕ) → i < range.0 → row_value s.zero all_rows all_values i ≡ row_value s.zero rows values i
  above i l =
      let none : All (λ r. r ≢ i) (moved ++ drop end rows) = All-append (λ r. r ≢ i) moved (drop end rows) (All-weaker (λ r. range.0 ≤ r) (λ r. r ≢ i) (λ r m e. omega arith) moved from_first) (All-weaker (λ r. range.1 ≤ r) (λ r. r ≢ i) (λ r m e. omega arith) (drop end rows) (past range.1 end last)) in
      let rest : All (λ r. r ≢ i) (drop start rows) = All-weaker (λ r. range.0 ≤ r) (λ r. r ≢ i) (λ r m e. omega arith) (drop start rows) (past range.0 start first) in
      in_front s.zero (take start rows) (take start values) (moved ++ drop end rows) (other_values ++ drop end values) i front_long none
      ∙ sym (in_front s.zero (take start rows) (take start values) (drop start rows) (drop start values) i front_long rest)
      ∙ (λ t. row_value s.zero (take-append-drop start rows t) (take-append-drop start values t) i)

  -- in the range
  among : (i : ℕ) → range.0 ≤ i → i < range.1 → row_value s.zero all_rows all_values i ≡ row_value s.zero others other_values (i - range.0)
  among i l m =
      behind s.zero (take start rows) (take start values) (moved ++ drop end rows) (other_values ++ drop end values) i front_long (All-weaker (λ r. r < range.0) (λ r. r ≢ i) (λ r k e. omega arith) (take start rows) front)
      ∙ in_front s.zero moved other_values (drop end rows) (drop end values) i moved_long (All-weaker (λ r. range.1 ≤ r) (λ r. r ≢ i) (λ r k e. omega arith) (drop end rows) (past range.1 end last))
      ∙ moved_value s.zero range.0 others other_values i l

  -- and behind it
  below : (i : ℕ) → range.1 ≤ i → row_value s.zero all_rows all_values i ≡ row_value s.zero rows values i
  below i l =
      let whole = last.within in
      let e = own.same_length in
      let p = length-take-le end rows whole in
      let q = length-take-le end values (omega arith) in
      let ended : All (λ r. r ≢ i) (take end rows) = All-from_get_or (λ r. r ≢ i) (take end rows) 0 (λ k m same. let b : k < end = omega arith in let r = last.below k b in let here = get_or-take end rows k 0 b in omega arith) in
      behind s.zero (take start rows) (take start values) (moved ++ drop end rows) (other_values ++ drop end values) i front_long (All-weaker (λ r. r < range.0) (λ r. r ≢ i) (λ r k e. omega arith) (take start rows) front)
      ∙ behind s.zero moved other_values (drop end rows) (drop end values) i moved_long (All-weaker (λ r. r < range.1) (λ r. r ≢ i) (λ r k e. omega arith) moved before_end)
      ∙ sym (behind s.zero (take end rows) (take end values) (drop end rows) (drop end values) i (omega arith) ended)
      ∙ (λ t. row_value s.zero (take-append-drop end rows t) (take-append-drop end values t) i)

  pub replaced_values : HasRowsReplaced s.zero range rows values others other_values all_rows all_values
  replaced_values i =
      let a = row_value s.zero others other_values (i - range.0) in
      let b = row_value s.zero rows values i in
      ⊎_elim
      (λ (l : i < range.0). above i l ∙ sym (cond-false (is_between range.0 range.1 i) a b (row_out range i (λ x y. omega arith))))
      (λ (l : range.0 ≤ i). ⊎_elim
      (λ (m : i < range.1). among i l m ∙ sym (cond-true (is_between range.0 range.1 i) a b (row_in range i l m)))
      (λ (m : range.1 ≤ i). below i m ∙ sym (cond-false (is_between range.0 range.1 i) a b (row_out range i (λ x y. omega arith))))
      (cases_lt i range.1))
      (cases_lt i range.0)
