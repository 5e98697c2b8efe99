-- The values of a list, stored as a column.
use Rattle.std.proofs.Common.{◌≡◌, ◌≢◌, ℕ, suc, ◌+◌, ◌-◌, ◌<◌, cond, List, [], ◌∷◌, ◌++◌, length, take, drop, sym, refl, ap, ◌∙◌, arith}
use Rattle.std.specs.Prelude.{All, AllPairs, ◌==◌}
use Rattle.std.proofs.lemmas.Bool.{eq-eqb, ne_eqb, cond-true, cond-false}
use Rattle.std.proofs.lemmas.List.{append-nil, length_push, take_all}
use Rattle.std.proofs.lemmas.List.Elements.{All-nil, All-push, All-weaker}
use Rattle.cb_semirings.specs.Arithmetic.{Arithmetic, IsValue}
use Rattle.cb_matrix.specs.declared.Entry.{Entry}
use Rattle.cb_matrix.specs.Sparse.{Sparse, Extent}
use Rattle.cb_matrix.specs.Values.{column_of, columns_of, matrix_of}
use Rattle.cb_matrix.proofs.Pairs.{AllPairs-nil, AllPairs-push}
use Rattle.cb_dcsc.specs.Compressed.{entries_in, pieces, csc_entries, csc_matrix, AreStarts}
use Rattle.cb_dcsc.proofs.ColumnEntries.{entries_in-push}

-- the rows below n at which f isn't zero, and the values there
pub record AreStoredTo (s : Arithmetic) (f : ℕ → ℕ) (n : ℕ) (rows stored : List ℕ) : Type 0 where
  pub same_length : length stored ≡ length rows
  pub ascending : AllPairs (λ i j. i < j) rows
  pub below : All (λ i. i < n) rows
  pub values : All (IsValue s) stored
  pub not_zero : All (λ v. v ≢ s.zero) stored
  pub entries : entries_in 0 rows stored ≡ column_of s.zero (λ i _. f i) 0 n

module _ (s : Arithmetic) (f : ℕ → ℕ) where
  -- none yet
  pub stored_none : (rows stored : List ℕ) → rows ≡ [] → stored ≡ [] → AreStoredTo s f 0 rows stored
  unfolding entries_in column_of
  stored_none rows stored p q = rw (p, q) (record {
    same_length = refl;
    ascending = AllPairs-nil (λ i j. i < j);
    below = All-nil (λ i. i < 0);
    values = All-nil (IsValue s);
    not_zero = All-nil (λ v. v ≢ s.zero);
    entries = refl;
  })

  -- one more value is stored
  pub stored_next : (n : ℕ) (rows stored : List ℕ) (value : ℕ) → value ≡ f n → IsValue s value → value ≢ s.zero → AreStoredTo s f n rows stored → AreStoredTo s f (n + 1) (rows ++ n ∷ []) (stored ++ value ∷ [])
  unfolding column_of
  stored_next n rows stored value is_value in_bound some h =
      let next : suc n ≡ n + 1 = omega arith in
      let wider : All (λ i. i < n + 1) rows = All-weaker (λ i. i < n) (λ i. i < n + 1) (λ i l. omega arith) rows h.below in
      let last : n < n + 1 = omega arith in
      let kept : cond (f n == s.zero) [] (record { row = n; column = 0; value = f n } ∷ []) ≡ record { row = n; column = 0; value = f n } ∷ [] = cond-false _ _ _ (ne_eqb (f n) s.zero (λ e. some (is_value ∙ e))) in
      record {
        same_length = length_push stored value ∙ ap (λ k. k + 1) h.same_length ∙ sym (length_push rows n);
        ascending = AllPairs-push (λ i j. i < j) rows n h.ascending h.below;
        below = All-push (λ i. i < n + 1) rows n wider last;
        values = All-push (IsValue s) stored value h.values in_bound;
        not_zero = All-push (λ v. v ≢ s.zero) stored value h.not_zero some;
        entries = entries_in-push 0 rows stored n value h.same_length
            ∙ (λ t. h.entries t ++ record { row = n; column = 0; value = is_value t } ∷ [])
            ∙ ap (λ es. column_of s.zero (λ i _. f i) 0 n ++ es) (sym kept)
            ∙ ap (column_of s.zero (λ i _. f i) 0) next;
      }

  -- a zero isn't
  pub not_stored : (n : ℕ) (rows stored : List ℕ) (value : ℕ) → value ≡ f n → value ≡ s.zero → AreStoredTo s f n rows stored → AreStoredTo s f (n + 1) rows stored
  unfolding column_of
  not_stored n rows stored value is_value none h =
      let next : suc n ≡ n + 1 = omega arith in
      let wider : All (λ i. i < n + 1) rows = All-weaker (λ i. i < n) (λ i. i < n + 1) (λ i l. omega arith) rows h.below in
      let dropped : cond (f n == s.zero) [] (record { row = n; column = 0; value = f n } ∷ []) ≡ [] = cond-true _ _ _ (eq-eqb (f n) s.zero (sym is_value ∙ none)) in
      record {
        same_length = h.same_length;
        ascending = h.ascending;
        below = wider;
        values = h.values;
        not_zero = h.not_zero;
        entries = h.entries ∙ sym (append-nil (column_of s.zero (λ i _. f i) 0 n)) ∙ ap (λ es. column_of s.zero (λ i _. f i) 0 n ++ es) (sym dropped) ∙ ap (column_of s.zero (λ i _. f i) 0) next;
      }

-- those of all rows, in a block without other entries, are the matrix of the list
pub all_stored : (s : Arithmetic) (f : ℕ → ℕ) (shape : Extent) (n : ℕ) (rows stored : List ℕ) → shape.cols ≡ 1 → shape.rows ≡ n → AreStoredTo s f n rows stored → record { shape = shape; entries = entries_in 0 rows stored } ≡ matrix_of s shape (λ i _. f i)
unfolding columns_of
all_stored s f shape n rows stored one all h =
    ap (λ (es : List Entry). let m : Sparse = record { shape = shape; entries = es } in m)
    (h.entries ∙ ap (column_of s.zero (λ i _. f i) 0) (sym all) ∙ (λ t. columns_of s.zero (λ i _. f i) shape.rows (sym one t)))

-- ---- compressed columns of one column
-- it starts at 0 and ends with the list
pub one_start : (n : ℕ) (rows stored : List ℕ) → n ≡ length rows → length stored ≡ length rows → AreStarts 1 (0 ∷ n ∷ []) rows stored
one_start n rows stored e same = record {
  count = refl;
  first = refl;
  rising = λ j l. (let first : j ≡ 0 = omega arith in rw first (omega arith));
  last = e;
  same_length = same;
}

-- its entries are those of the lists
pub one_column : (shape : Extent) (n : ℕ) (rows stored : List ℕ) → shape.cols ≡ 1 → n ≡ length rows → length stored ≡ length rows → csc_matrix shape (0 ∷ n ∷ []) rows stored ≡ record { shape = shape; entries = entries_in 0 rows stored }
unfolding pieces
one_column shape n rows stored one e same =
    let all : take (n - 0) (drop 0 rows) ≡ rows = take_all (n - 0) rows (omega arith) in
    let all_stored : take (n - 0) (drop 0 stored) ≡ stored = take_all (n - 0) stored (omega arith) in
    ap (λ (es : List Entry). let m : Sparse = record { shape = shape; entries = es } in m)
    (ap (csc_entries (0 ∷ n ∷ []) rows stored) one ∙ (λ t. entries_in 0 (all t) (all_stored t)))
