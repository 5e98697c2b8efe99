-- Compressed columns (CSC) without the empty ones.
use Rattle.std.proofs.Common.{◌≡◌, ◌≢◌, ℕ, zero, suc, ◌+◌, ◌<◌, ◌≤◌, List, [], ◌∷◌, ◌++◌, length, get_or, sym, refl, ap, ◌∙◌, ⊎_elim, arith, subst, length-take, length-drop}
use Rattle.std.specs.Prelude.{slice_range}
use Rattle.std.proofs.lemmas.Bool.{cases_lt, cases_eq}
use Rattle.std.proofs.lemmas.List.{append-nil, nil_from_length, get_or_append_left, get_or_push, length_push}
use Rattle.std.proofs.lemmas.List.Elements.{All-nil, All-push, All-weaker}
use Rattle.cb_semirings.specs.Arithmetic.{Arithmetic}
use Rattle.cb_matrix.specs.declared.Entry.{Entry}
use Rattle.cb_matrix.specs.Sparse.{Extent, IsMatrix}
use Rattle.cb_matrix.proofs.Pairs.{AllPairs-nil, AllPairs-push}
use Rattle.cb_dcsc.specs.Compressed.{entries_in, part, piece, pieces, IsBlock, csc_column, csc_entries, csc_matrix, AreStarts, AreNonempty}
use Rattle.cb_dcsc.proofs.ColumnEntries.{pieces_same}
use Rattle.cb_dcsc.proofs.Ranges.{no_range}

-- before the first column there are none
pub none_nonempty : (all : List ℕ) → get_or all 0 0 ≡ 0 → AreNonempty 0 all [] (0 ∷ [])
unfolding pieces
none_nonempty all first = record {
  ascending = AllPairs-nil (λ c d. c < d);
  below = All-nil (λ c. c < 0);
  count = refl;
  first = refl;
  rising = λ k l. absurd (omega arith);
  last = sym first;
  entries = λ rows values. refl;
}

empty_column : (starts rows values : List ℕ) (j : ℕ) → get_or starts j 0 ≡ get_or starts (j + 1) 0 → csc_column starts rows values j ≡ []
unfolding entries_in
empty_column starts rows values j e =
    let none : part starts rows j ≡ [] = ap (slice_range rows (get_or starts j 0)) (sym e) ∙ no_range rows (get_or starts j 0) in
    rw none refl

-- a column that ends where it starts is left out
pub skipped : (n : ℕ) (all columns starts : List ℕ) → AreNonempty n all columns starts → get_or all n 0 ≡ get_or all (n + 1) 0 → AreNonempty (n + 1) all columns starts
unfolding pieces
skipped n all columns starts are e = record {
  ascending = are.ascending;
  below = All-weaker (λ c. c < n) (λ c. c < n + 1) (λ c l. omega arith) columns are.below;
  count = are.count;
  first = are.first;
  rising = are.rising;
  last = are.last ∙ e;
  entries = λ rows values.
      let next : n + 1 ≡ suc n = omega arith in
      are.entries rows values ∙ sym (ap (csc_entries all rows values) next ∙ ap (λ xs. csc_entries all rows values n ++ xs) (empty_column all rows values n e) ∙ append-nil (csc_entries all rows values n));
}

-- another one is named
pub named : (n : ℕ) (all columns starts columns' starts' : List ℕ) → AreNonempty n all columns starts → get_or all n 0 < get_or all (n + 1) 0 → columns' ≡ columns ++ n ∷ [] → starts' ≡ starts ++ get_or all (n + 1) 0 ∷ [] → AreNonempty (n + 1) all columns' starts'
unfolding pieces
named n all columns starts columns' starts' are l is_columns is_starts =
    let end = get_or all (n + 1) 0 in
    let long = length_push columns n in
    let starts_long = length_push starts end in
    let counts = are.count in
    let old_start : (k : ℕ) → k ≤ length columns → get_or (starts ++ end ∷ []) k 0 ≡ get_or starts k 0 = λ k m. get_or_append_left starts (end ∷ []) 0 k (omega arith) in
    let new_start : get_or (starts ++ end ∷ []) (length columns + 1) 0 ≡ end = get_or_push starts end 0 (length columns + 1) counts in
    let old_column : (k : ℕ) → k < length columns → get_or (columns ++ n ∷ []) k 0 ≡ get_or columns k 0 = λ k m. get_or_append_left columns (n ∷ []) 0 k m in
    let new_column : get_or (columns ++ n ∷ []) (length columns) 0 ≡ n = get_or_push columns n 0 (length columns) refl in
    let whole : AreNonempty (n + 1) all (columns ++ n ∷ []) (starts ++ end ∷ []) = record {
      ascending = AllPairs-push (λ c d. c < d) columns n are.ascending are.below;
      below = All-push (λ c. c < n + 1) columns n (All-weaker (λ c. c < n) (λ c. c < n + 1) (λ c l. omega arith) columns are.below) (omega arith);
      count = omega arith;
      first = old_start 0 (omega arith) ∙ are.first;
      rising = λ k m. ⊎_elim
          (λ (b : k < length columns).
          let r = are.rising k b in
          let p = old_start k (omega arith) in
          let q = old_start (k + 1) (omega arith) in
          omega arith)
          (λ (b : length columns ≤ k).
          let same : k ≡ length columns = omega arith in
          let p : get_or (starts ++ end ∷ []) k 0 ≡ get_or all n 0 = old_start k (omega arith) ∙ ap (λ x. get_or starts x 0) same ∙ are.last in
          let q : get_or (starts ++ end ∷ []) (k + 1) 0 ≡ end = ap (λ x. get_or (starts ++ end ∷ []) (x + 1) 0) same ∙ new_start in
          omega arith)
          (cases_lt k (length columns));
      last = ap (λ x. get_or (starts ++ end ∷ []) x 0) long ∙ new_start;
      entries = λ rows values.
          let f = piece columns starts rows values in
          let g = piece (columns ++ n ∷ []) (starts ++ end ∷ []) rows values in
          let m = length columns in
          let next : n + 1 ≡ suc n = omega arith in
          let more : length (columns ++ n ∷ []) ≡ suc m = omega arith in
          let front : pieces g m ≡ pieces f m = pieces_same g f m (λ k b.
          let p = old_column k b in
          let q = old_start k (omega arith) in
          let r = old_start (k + 1) (omega arith) in
          λ z. entries_in (p z) (slice_range rows (q z) (r z)) (slice_range values (q z) (r z))) in
          let q : get_or (starts ++ end ∷ []) m 0 ≡ get_or all n 0 = old_start m (omega arith) ∙ are.last in
          let back : g m ≡ csc_column all rows values n = λ z. entries_in (new_column z) (slice_range rows (q z) (new_start z)) (slice_range values (q z) (new_start z)) in
          ap (pieces g) more ∙ ap (λ xs. xs ++ g m) front ∙ ap (λ xs. xs ++ g m) (are.entries rows values) ∙ ap (λ xs. csc_entries all rows values n ++ xs) back ∙ sym (ap (csc_entries all rows values) next);
    } in
    rw (is_columns, is_starts) whole

-- without rows there are no entries
pub no_rows : (starts rows values : List ℕ) (n : ℕ) → length rows ≡ 0 → csc_entries starts rows values n ≡ []
unfolding pieces entries_in
no_rows starts rows values zero e = refl
no_rows starts rows values (suc n) e =
    let none : part starts rows n ≡ [] = nil_from_length (part starts rows n) (simp (length-take, length-drop) (omega arith)) in
    ap (λ xs. xs ++ csc_column starts rows values n) (no_rows starts rows values n e) ∙ rw none refl

-- the columns that have entries are those of a block
pub nonempty_block : (s : Arithmetic) (shape : Extent) (all columns starts rows values : List ℕ) → AreStarts shape.cols all rows values → AreNonempty shape.cols all columns starts → 0 < length rows → IsMatrix s (csc_matrix shape all rows values) → IsBlock s shape columns starts rows values
nonempty_block s shape all columns starts rows values are kept some is =
    let last : get_or starts (length columns) 0 ≡ length rows = kept.last ∙ are.last in
    let first = kept.first in
    let named : 0 < length columns = ⊎_elim (λ (z : length columns ≡ 0). let e = ap (λ k. get_or starts k 0) z in absurd (omega arith)) (λ (z : length columns ≡ 0 → ⊥). let n : length columns ≢ 0 = z in omega arith) (cases_eq (length columns) 0) in
    record {
      lists = record {
        ascending = kept.ascending;
        no_starts = λ z. absurd (omega arith);
        one_more_start = λ _. kept.count;
        first = kept.first;
        rising = kept.rising;
        last = last;
        same_length = are.same_length;
      };
      matrix = subst (λ (es : List Entry). IsMatrix s (record { shape = shape; entries = es })) (sym (kept.entries rows values)) is;
    }
