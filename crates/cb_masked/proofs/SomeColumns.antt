-- Some columns of a matrix, by their places among those that have entries.
use Rattle.std.proofs.Common.{◌≡◌, ℕ, ◌+◌, ◌-◌, ◌<◌, ◌≤◌, true, List, length, drop, get_or, sym, ap, ◌∙◌, arith, subst}
use Rattle.std.specs.Prelude.{All, AllPairs, slice_range}
use Rattle.std.proofs.lemmas.List.Edits.{length-between, get_or-between}
use Rattle.std.proofs.lemmas.List.Elements.{All-take, All-drop}
use Rattle.std.proofs.lemmas.Slice.{between_to_end}
use Rattle.cb_matrix.specs.Sparse.{Sparse}
use Rattle.cb_dcsc.specs.Columns.{in_column, columns_with_entries}
use Rattle.cb_dcsc.proofs.NumbersOfColumns.{columns_hold}
use Rattle.cb_product.specs.InColumns.{AreInColumns, is_among}
use Rattle.cb_product.proofs.OnlyColumns.{among_at, only_in, only_column, only_all}
use Rattle.cb_masked.specs.SomeColumns.{only_places}

-- ---- numbers from one place up to another
module _ (xs : List ℕ) (low high : ℕ) (h : high ≤ length xs) where
  -- they ascend if all do
  pub some_ascend : AllPairs (λ c d. c < d) xs → AllPairs (λ c d. c < d) (slice_range xs low high)
  some_ascend up i j d l k =
      let long = length-between xs low high h in
      let e = get_or-between xs low high i d (omega arith) in
      let f = get_or-between xs low high j d (omega arith) in
      let less : get_or xs (low + i) d < get_or xs (low + j) d = up (low + i) (low + j) d (omega arith) (omega arith) in
      omega arith

  -- and are below a bound if all are
  pub some_inside : (n : ℕ) → All (λ c. c < n) xs → All (λ c. c < n) (slice_range xs low high)
  some_inside n k = All-take (λ c. c < n) (high - low) (drop low xs) (All-drop (λ c. c < n) low xs k)

-- ---- the columns at some places; xs are all that have entries
module _ (m : Sparse) (low high : ℕ) (xs : List ℕ) (numbers : xs ≡ columns_with_entries m.entries) where
  -- all entries that are left are in them
  pub in_some : AreInColumns (slice_range xs low high) (only_places low high m).entries
  in_some = subst (λ cs. AreInColumns (slice_range cs low high) (only_places low high m).entries) (sym numbers) (only_in (slice_range (columns_with_entries m.entries) low high) m)

  -- the nth of them keeps its entries
  pub same_column : (n : ℕ) → high ≤ length xs → n < length (slice_range xs low high) → in_column (get_or (columns_with_entries m.entries) (low + n) 0) m.entries ≡ in_column (get_or (slice_range xs low high) n 0) (only_places low high m).entries
  same_column n h k =
      let some : List ℕ = slice_range (columns_with_entries m.entries) low high in
      let long = length-between xs low high h in
      let at : get_or (slice_range xs low high) n 0 ≡ get_or xs (low + n) 0 = get_or-between xs low high n 0 (omega arith) in
      let among = subst (λ cs. is_among (slice_range cs low high) (get_or (slice_range xs low high) n 0) ≡ true) numbers (among_at (slice_range xs low high) n 0 k) in
      ap (λ cs. in_column (get_or cs (low + n) 0) m.entries) (sym numbers) ∙ ap (λ c. in_column c m.entries) (sym at) ∙ sym (only_column some m (get_or (slice_range xs low high) n 0) among)

  -- those at all places are the whole matrix
  pub all_places : low ≡ 0 → high ≡ length xs → only_places low high m ≡ m
  all_places l h =
      let whole : slice_range xs low high ≡ xs = ap (λ n. slice_range xs n high) l ∙ between_to_end xs 0 high (omega arith) in
      only_all (slice_range (columns_with_entries m.entries) low high) m
      (subst (λ cs. AreInColumns cs m.entries) (sym (ap (λ cs. slice_range cs low high) (sym numbers) ∙ whole)) (columns_hold m.entries xs numbers))
