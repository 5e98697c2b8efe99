-- A whole column more: what pushing its entries one by one would make.
use Rattle.std.proofs.Common.{◌≡◌, ◌≢◌, ℕ, suc, ◌+◌, ◌-◌, ◌<◌, inl, inr, List, [], ◌∷◌, ◌++◌, length, get_or, set, sym, refl, ap, ◌∙◌, arith, subst, append_assoc, append-nil}
use Rattle.std.specs.Prelude.{All, AllPairs}
use Rattle.std.proofs.lemmas.List.{set-append_right, length_push, get_or_push}
use Rattle.std.proofs.lemmas.List.Elements.{All-head, All-tail, All-push, All-append, All-weaker}
use Rattle.cb_semirings.specs.Arithmetic.{Arithmetic, IsValue}
use Rattle.cb_matrix.specs.declared.Entry.{Entry}
use Rattle.cb_matrix.proofs.Pairs.{AllPairs-head, AllPairs-tail}
use Rattle.cb_matrix.specs.Sparse.{Sparse, Extent, IsBefore}
use Rattle.cb_dcsc.specs.Compressed.{entries_in, piece, pieces, IsBlock, block_of, opened, with_column}
use Rattle.cb_dcsc.specs.Columns.{with_entry}
use Rattle.cb_dcsc.proofs.ColumnEntries.{entries_in-columns}
use Rattle.cb_dcsc.proofs.Held.{own_columns, some_entry}
use Rattle.cb_dcsc.proofs.Pushed.{pushed_same, pushed_new, length-opened, All-back}

-- column j at row i, whatever its value
abbrev pub spot : ℕ → ℕ → Entry
spot j i = record { row = i; column = j; value = 0 }

-- all entries of m come before each of these rows of column j
abbrev pub Follow : ℕ → List Entry → List ℕ → Type 0
Follow j es is = All (λ i. All (λ d. IsBefore d (spot j i)) es) is

follow_next : (j i v : ℕ) (es : List Entry) (is : List ℕ) → AllPairs (λ a b. a < b) (i ∷ is) → Follow j es is → Follow j (es ++ record { row = i; column = j; value = v } ∷ []) is
follow_next j i v es is up h k d l =
    let e : Entry = record { row = i; column = j; value = v } in
    All-push (λ x. IsBefore x (spot j (get_or is k d))) es e (h k d l) (inr (refl, AllPairs-head (λ a b. a < b) i is up k d l))

module _ (s : Arithmetic) (shape : Extent) (columns : List ℕ) (j : ℕ) (ends : (0 < length columns) × (get_or columns (length columns - 1) 0 ≡ j)) (inside : j < shape.cols) (front : List ℕ) (long : length front ≡ length columns) where
  abbrev starts : ℕ → List ℕ
  starts n = front ++ n ∷ []

  -- the rest of a column that has been started
  pub all_more : (is vs rows values : List ℕ) (m : Sparse) (end : ℕ) → length vs ≡ length is → AllPairs (λ a b. a < b) is → All (λ i. i < shape.rows) is → All (IsValue s) vs → All (λ v. v ≢ s.zero) vs
      → Follow j m.entries is → IsBlock s shape columns (starts (length rows)) rows values → block_of shape columns (starts (length rows)) rows values ≡ m → end ≡ length rows + length is
      → IsBlock s shape columns (starts end) (rows ++ is) (values ++ vs) × (block_of shape columns (starts end) (rows ++ is) (values ++ vs) ≡ with_column m j is vs)
  unfolding entries_in
  all_more [] [] rows values m end same up low is_value not_zero after is view e =
      let none : end ≡ length rows = omega arith in
      rw (none, append-nil rows, append-nil values, append-nil m.entries) (is, view)
  all_more [] (v ∷ vs) rows values m end same up low is_value not_zero after is view e = absurd (omega arith)
  all_more (i ∷ is) [] rows values m end same up low is_value not_zero after is' view e = absurd (omega arith)
  all_more (i ∷ is) (v ∷ vs) rows values m end same up low is_value not_zero after is' view e =
      let entry : Entry = record { row = i; column = j; value = v } in
      let shapes : m.shape ≡ shape = ap (λ (x : Sparse). x.shape) (sym view) in
      let here : i < shape.rows = All-head (λ i. i < shape.rows) i is low in
      let one = pushed_same s shape columns (starts (length rows)) rows values is' m view entry (rw shapes (here, inside)) (All-head (λ k. All (λ d. IsBefore d (spot j k)) m.entries) i is after) (All-head (IsValue s) v vs is_value) (All-head (λ v. v ≢ s.zero) v vs not_zero) (rows ++ i ∷ []) (values ++ v ∷ []) refl refl ends (length columns) (length rows) refl refl in
      let grown : set (starts (length rows)) (length columns) (length rows + 1) ≡ starts (length (rows ++ i ∷ [])) =
      set-append_right front (length rows ∷ []) (length front) (length columns) (length rows + 1) refl (omega arith) ∙ (let z : length columns - length front ≡ 0 = omega arith in ap (λ n. front ++ set (length rows ∷ []) n (length rows + 1)) z) ∙ ap starts (sym (length_push rows i)) in
      let one' : IsBlock s shape columns (starts (length (rows ++ i ∷ []))) (rows ++ i ∷ []) (values ++ v ∷ []) × (block_of shape columns (starts (length (rows ++ i ∷ []))) (rows ++ i ∷ []) (values ++ v ∷ []) ≡ with_entry m entry) = rw grown at one in
      let n = length_push rows i in
      let rest = all_more is vs (rows ++ i ∷ []) (values ++ v ∷ []) (with_entry m entry) end (omega arith) (AllPairs-tail (λ a b. a < b) i is up) (All-tail (λ i. i < shape.rows) i is low) (All-tail (IsValue s) v vs is_value) (All-tail (λ v. v ≢ s.zero) v vs not_zero)
      (follow_next j i v m.entries is up (All-tail (λ k. All (λ d. IsBefore d (spot j k)) m.entries) i is after)) one'.0 one'.1 (omega arith) in
      rw (← append_assoc rows (i ∷ []) is, ← append_assoc values (v ∷ []) vs, ← append_assoc m.entries (entry ∷ []) (entries_in j is vs)) rest

-- a column with an entry, all of whose columns come before another one, is before it
column_less : (es : List Entry) (c j : ℕ) → 0 < length es → All (λ d. d.column ≡ c) es → All (λ d. d.column < j) es → c < j
column_less [] c j l h k = absurd (omega arith)
column_less (d ∷ es) c j l h k =
    let p = All-head (λ d. d.column ≡ c) d es h in
    let q = All-head (λ d. d.column < j) d es k in
    omega arith

module _ (s : Arithmetic) (shape : Extent) (columns starts rows values : List ℕ) (is : IsBlock s shape columns starts rows values) (m : Sparse) (view : block_of shape columns starts rows values ≡ m) (j : ℕ) (before : All (λ e. e.column < j) m.entries) where
  -- the last column is another one
  not_last : (n : ℕ) → length columns ≡ suc n → get_or columns n 0 < j
  unfolding pieces
  not_last n count =
      let f = piece columns starts rows values in
      let all : All (λ e. e.column < j) (pieces f n ++ f n) = subst (λ k. All (λ e. e.column < j) (pieces f k)) count (subst (λ (x : Sparse). All (λ e. e.column < j) x.entries) (sym view) before) in
      column_less (f n) (get_or columns n 0) j (some_entry columns starts rows values is.lists n (omega arith)) (own_columns columns starts rows values is.lists n) (All-back (λ e. e.column < j) (pieces f n) (f n) all)

  other : (0 < length columns) × (get_or columns (length columns - 1) 0 ≡ j) → ⊥
  other e =
      let l = e.0 in
      let b = not_last (length columns - 1) (omega arith) in
      let p = e.1 in
      omega arith

  -- a column more, after all others
  pub column_pushed : (js vs cs ss rs ws : List ℕ) (end : ℕ) → (length js ≡ 0 → ⊥) → length vs ≡ length js → AllPairs (λ a b. a < b) js → All (λ i. i < m.shape.rows) js → j < m.shape.cols → All (IsValue s) vs → All (λ v. v ≢ s.zero) vs
      → cs ≡ columns ++ j ∷ [] → ss ≡ opened starts ++ end ∷ [] → end ≡ length rows + length js → rs ≡ rows ++ js → ws ≡ values ++ vs
      → IsBlock s shape cs ss rs ws × (block_of shape cs ss rs ws ≡ with_column m j js vs)
  unfolding entries_in
  column_pushed [] vs cs ss rs ws end some same up low inside is_value not_zero p q e r t = absurd (some refl)
  column_pushed (i ∷ js) [] cs ss rs ws end some same up low inside is_value not_zero p q e r t = absurd (omega arith)
  column_pushed (i ∷ js) (v ∷ vs) cs ss rs ws end some same up low inside is_value not_zero p q e r t =
      let entry : Entry = record { row = i; column = j; value = v } in
      let shapes : m.shape ≡ shape = ap (λ (x : Sparse). x.shape) (sym view) in
      let after : All (λ d. IsBefore d entry) m.entries = All-weaker (λ e. e.column < j) (λ d. IsBefore d entry) (λ d l. inl l) m.entries before in
      let here = All-head (λ i. i < m.shape.rows) i js low in
      let first = pushed_new s shape columns starts rows values is m view entry (here, inside) after (All-head (IsValue s) v vs is_value) (All-head (λ v. v ≢ s.zero) v vs not_zero) (rows ++ i ∷ []) (values ++ v ∷ []) refl refl other (columns ++ j ∷ []) (opened starts ++ (length rows + 1) ∷ []) (length rows) refl refl refl in
      let first' = rw (← length_push rows i) at first in
      let front = length-opened starts (length columns) is.lists.no_starts is.lists.one_more_start in
      let more = length_push columns j in
      let n = length_push rows i in
      let rest = all_more s shape (columns ++ j ∷ []) j (omega arith, (let z : length (columns ++ j ∷ []) - 1 ≡ length columns = omega arith in ap (λ k. get_or (columns ++ j ∷ []) k 0) z) ∙ get_or_push columns j 0 (length columns) refl) (rw (← shapes) inside) (opened starts) (omega arith)
      js vs (rows ++ i ∷ []) (values ++ v ∷ []) (with_entry m entry) end (omega arith) (AllPairs-tail (λ a b. a < b) i js up) (rw (← shapes) (All-tail (λ i. i < m.shape.rows) i js low)) (All-tail (IsValue s) v vs is_value) (All-tail (λ v. v ≢ s.zero) v vs not_zero)
      (follow_next j i v m.entries js up (λ k d l. All-weaker (λ e. e.column < j) (λ d'. IsBefore d' (spot j (get_or js k d))) (λ d' b. inl b) m.entries before)) first'.0 first'.1 (omega arith) in
      rw (p, q, r, t) (rw (← append_assoc rows (i ∷ []) js, ← append_assoc values (v ∷ []) vs, ← append_assoc m.entries (entry ∷ []) (entries_in j js vs)) rest)

-- a column without rows is nothing more
pub no_column : (m : Sparse) (j : ℕ) (is vs : List ℕ) → length is ≡ 0 → m ≡ with_column m j is vs
unfolding entries_in
no_column m j [] vs e = λ z. record { shape = m.shape; entries = sym (append-nil m.entries) z }
no_column m j (i ∷ is) vs e = absurd (omega arith)

-- all entries come before a column, also those of the column stored last
pub column_before : (m new : Sparse) (j k : ℕ) (is vs : List ℕ) → new ≡ with_column m j is vs → All (λ e. e.column < k) m.entries → j < k → All (λ e. e.column < k) new.entries
column_before m new j k is vs same h l =
    subst (λ (x : Sparse). All (λ e. e.column < k) x.entries) (sym same) (All-append (λ e. e.column < k) m.entries (entries_in j is vs) h (All-weaker (λ e. e.column ≡ j) (λ e. e.column < k) (λ e p. omega arith) (entries_in j is vs) (entries_in-columns j is vs)))
