-- Entries with other values, one for each.
use Rattle.std.proofs.Common.{◌≡◌, ◌≢◌, ℕ, zero, suc, ◌+◌, ◌≤◌, List, [], ◌∷◌, ◌++◌, length, take, get_or, sym, refl, ap, ◌∙◌, arith, subst, length-take}
use Rattle.std.specs.Prelude.{All, AllPairs}
use Rattle.std.proofs.lemmas.List.{take_all}
use Rattle.std.proofs.lemmas.List.Elements.{All-nil, All-cons, All-head, All-tail}
use Rattle.cb_semirings.specs.Arithmetic.{Arithmetic, IsValue}
use Rattle.cb_matrix.specs.declared.Entry.{Entry}
use Rattle.cb_matrix.specs.Sparse.{Sparse, Extent, IsMatrix, IsBefore, IsInside}
use Rattle.cb_matrix.proofs.Pairs.{AllPairs-nil, AllPairs-cons, AllPairs-head, AllPairs-tail}
use Rattle.cb_dcsc.specs.Columns.{revalued}
use Rattle.cb_dcsc.specs.Compressed.{entries_in, part, piece, pieces, all_entries, AreColumns, IsBlock, block_of}
use Rattle.cb_dcsc.proofs.Held.{start_within, same_parts, length-pieces, count_is}
use Rattle.cb_dcsc.proofs.Ranges.{range_join}

-- what holds of entries because of their places and of their values
revalued-all : (P Q : Entry → Type 0) (R : ℕ → Type 0) → ((e : Entry) (v : ℕ) → P e → R v → Q (record { row = e.row; column = e.column; value = v }))
    → (es : List Entry) (vs : List ℕ) → All P es → All R vs → All Q (revalued es vs)
unfolding revalued
revalued-all P Q R f [] vs h k = All-nil Q
revalued-all P Q R f (e ∷ es) [] h k = All-nil Q
revalued-all P Q R f (e ∷ es) (v ∷ vs) h k =
    All-cons Q (record { row = e.row; column = e.column; value = v }) (revalued es vs) (f e v (All-head P e es h) (All-head R v vs k)) (revalued-all P Q R f es vs (All-tail P e es h) (All-tail R v vs k))

-- their order
revalued_order : (es : List Entry) (vs : List ℕ) → AllPairs IsBefore es → AllPairs IsBefore (revalued es vs)
unfolding revalued
revalued_order [] vs h = AllPairs-nil IsBefore
revalued_order (e ∷ es) [] h = AllPairs-nil IsBefore
revalued_order (e ∷ es) (v ∷ vs) h =
    let first : Entry = record { row = e.row; column = e.column; value = v } in
    AllPairs-cons IsBefore first (revalued es vs)
    (revalued-all (IsBefore e) (IsBefore first) (λ w. w ≡ w) (λ d w b u. b) es vs (AllPairs-head IsBefore e es h) (λ k d l. refl))
    (revalued_order es vs (AllPairs-tail IsBefore e es h))

-- two lists, one after the other
revalued-append : (xs ys : List Entry) (us vs : List ℕ) → length us ≡ length xs → revalued (xs ++ ys) (us ++ vs) ≡ revalued xs us ++ revalued ys vs
unfolding revalued
revalued-append [] ys [] vs e = refl
revalued-append [] ys (u ∷ us) vs e = absurd (omega arith)
revalued-append (x ∷ xs) ys [] vs e = absurd (omega arith)
revalued-append (x ∷ xs) ys (u ∷ us) vs e = ap (λ es. record { row = x.row; column = x.column; value = u } ∷ es) (revalued-append xs ys us vs (omega arith))

-- a column
revalued-column : (j : ℕ) (is vs ws : List ℕ) → length vs ≡ length is → revalued (entries_in j is vs) ws ≡ entries_in j is ws
unfolding revalued entries_in
revalued-column j [] vs ws e = refl
revalued-column j (i ∷ is) [] ws e = absurd (omega arith)
revalued-column j (i ∷ is) (v ∷ vs) [] e = refl
revalued-column j (i ∷ is) (v ∷ vs) (w ∷ ws) e = ap (λ es. record { row = i; column = j; value = w } ∷ es) (revalued-column j is vs ws (omega arith))

-- a matrix with other values than zero is one
pub revalued_matrix : (s : Arithmetic) (m : Sparse) (vs : List ℕ) → IsMatrix s m → All (IsValue s) vs → All (λ v. v ≢ s.zero) vs → IsMatrix s (record { shape = m.shape; entries = revalued m.entries vs })
revalued_matrix s m vs is are_values not_zero = record {
  ascending = revalued_order m.entries vs is.ascending;
  inside = revalued-all (IsInside m.shape) (IsInside m.shape) (IsValue s) (λ e v h k. h) m.entries vs is.inside are_values;
  values = revalued-all (IsInside m.shape) (λ e. IsValue s e.value) (IsValue s) (λ e v h k. k) m.entries vs is.inside are_values;
  not_zero = revalued-all (IsInside m.shape) (λ e. e.value ≢ s.zero) (λ v. v ≢ s.zero) (λ e v h k. k) m.entries vs is.inside not_zero;
}

module _ (columns starts rows values : List ℕ) (are : AreColumns columns starts rows values) (others : List ℕ) (long : length others ≡ length rows) where
  -- the first columns
  revalued-pieces : (n : ℕ) → n ≤ length columns → pieces (piece columns starts rows others) n ≡ revalued (pieces (piece columns starts rows values) n) (take (get_or starts n 0) others)
  unfolding pieces revalued
  revalued-pieces zero l = refl
  revalued-pieces (suc n) l =
      let f = piece columns starts rows values in
      let start = get_or starts n 0 in
      let end = get_or starts (n + 1) 0 in
      let rise = are.rising n (omega arith) in
      let within = start_within columns starts rows values are n (omega arith) in
      let count : length (take start others) ≡ length (pieces f n) = simp length-take (let h = length-pieces columns starts rows values are n (omega arith) in omega arith) in
      let next : n + 1 ≡ suc n = omega arith in
      ap (λ xs. xs ++ piece columns starts rows others n) (revalued-pieces n (omega arith))
      ∙ ap (λ xs. revalued (pieces f n) (take start others) ++ xs) (sym (revalued-column (get_or columns n 0) (part starts rows n) (part starts values n) (part starts others n) (same_parts columns starts rows values are n (omega arith))))
      ∙ sym (revalued-append (pieces f n) (f n) (take start others) (part starts others n) count)
      ∙ ap (revalued (pieces f n ++ f n)) (range_join start end others (omega arith) ∙ ap (λ k. take (get_or starts k 0) others) next)

  -- all of them
  revalued-columns : all_entries columns starts rows others ≡ revalued (all_entries columns starts rows values) others
  revalued-columns =
      revalued-pieces (length columns) (omega arith)
      ∙ ap (revalued (all_entries columns starts rows values)) (take_all (get_or starts (length columns) 0) others (let last = are.last in omega arith))

-- the block with the other values
module _ (s : Arithmetic) (shape : Extent) (columns starts rows values : List ℕ) (is : IsBlock s shape columns starts rows values) (m : Sparse) (view : block_of shape columns starts rows values ≡ m) (others : List ℕ) (long : length others ≡ length m.entries) (are_values : All (IsValue s) others) (not_zero : All (λ v. v ≢ s.zero) others) where
  same_length : length others ≡ length rows
  same_length = long ∙ sym (count_is columns starts rows values m.entries is.lists (ap (λ (x : Sparse). x.entries) view))

  -- is the matrix with them
  pub revalued_is : block_of shape columns starts rows others ≡ record { shape = m.shape; entries = revalued m.entries others }
  revalued_is =
      let es = revalued-columns columns starts rows values is.lists others same_length in
      let shapes : shape ≡ m.shape = ap (λ (x : Sparse). x.shape) view in
      let old : all_entries columns starts rows values ≡ m.entries = ap (λ (x : Sparse). x.entries) view in
      λ z. record { shape = shapes z; entries = (es ∙ ap (λ xs. revalued xs others) old) z }

  -- and a block
  pub revalued_block : IsBlock s shape columns starts rows others
  revalued_block =
      let lists = is.lists in
      record {
        lists = record {
          ascending = lists.ascending;
          no_starts = lists.no_starts;
          one_more_start = lists.one_more_start;
          first = lists.first;
          rising = lists.rising;
          last = lists.last;
          same_length = same_length;
        };
        matrix = subst (λ (es : List Entry). IsMatrix s (record { shape = shape; entries = es })) (sym (revalued-columns columns starts rows values is.lists others same_length)) (revalued_matrix s (block_of shape columns starts rows values) others is.matrix are_values not_zero);
      }
