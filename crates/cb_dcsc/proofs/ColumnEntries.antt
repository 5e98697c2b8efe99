-- The entries of each column, one column after another.
use Rattle.std.proofs.Common.{◌≡◌, ◌≢◌, ℕ, zero, suc, ◌+◌, ◌<◌, ◌≤◌, true, false, cond, List, [], ◌∷◌, ◌++◌, length, take, get_or, sym, refl, ap, ◌∙◌, ⊎_elim, arith, add-one, length-take, append_assoc}
use Rattle.std.specs.Prelude.{All, AllPairs, ◌==◌}
use Rattle.std.proofs.lemmas.Bool.{eq-eqb, ne_eqb, eqb-true, cases_lt}
use Rattle.std.proofs.lemmas.List.{append-nil, take_more, take_all}
use Rattle.std.proofs.lemmas.List.Elements.{All-nil, All-cons, All-head, All-tail, All-append, filter-append, All-weaker}
use Rattle.cb_matrix.specs.declared.Entry.{Entry}
use Rattle.cb_dcsc.specs.Compressed.{entries_in, pieces}
use Rattle.cb_dcsc.specs.Columns.{in_column, rows_of, values_of, with_front, columns_with_entries}

-- ---- the entries of one column
-- a column has as many entries as rows
pub length-entries_in : (j : ℕ) (is vs : List ℕ) → length vs ≡ length is → length (entries_in j is vs) ≡ length is
unfolding entries_in
length-entries_in j [] vs e = refl
length-entries_in j (i ∷ is) [] e = absurd (omega arith)
length-entries_in j (i ∷ is) (v ∷ vs) e = let h = length-entries_in j is vs (omega arith) in omega arith

-- the rows of a column's entries are those that it is made of
pub rows-entries_in : (j : ℕ) (is vs : List ℕ) → length vs ≡ length is → rows_of (entries_in j is vs) ≡ is
unfolding entries_in
rows-entries_in j [] vs e = refl
rows-entries_in j (i ∷ is) [] e = absurd (omega arith)
rows-entries_in j (i ∷ is) (v ∷ vs) e = ap (λ xs. i ∷ xs) (rows-entries_in j is vs (omega arith))

-- and so are its values
pub values-entries_in : (j : ℕ) (is vs : List ℕ) → length vs ≡ length is → values_of (entries_in j is vs) ≡ vs
unfolding entries_in
values-entries_in j [] [] e = refl
values-entries_in j [] (v ∷ vs) e = absurd (omega arith)
values-entries_in j (i ∷ is) [] e = absurd (omega arith)
values-entries_in j (i ∷ is) (v ∷ vs) e = ap (λ xs. v ∷ xs) (values-entries_in j is vs (omega arith))

-- the entries of a column are all in it
pub entries_in-columns : (j : ℕ) (is vs : List ℕ) → All (λ e. e.column ≡ j) (entries_in j is vs)
unfolding entries_in
entries_in-columns j [] vs = All-nil (λ e. e.column ≡ j)
entries_in-columns j (i ∷ is) [] = All-nil (λ e. e.column ≡ j)
entries_in-columns j (i ∷ is) (v ∷ vs) = All-cons (λ e. e.column ≡ j) (record { row = i; column = j; value = v }) (entries_in j is vs) refl (entries_in-columns j is vs)

-- a row and a value more make an entry more
pub entries_in-push : (j : ℕ) (is vs : List ℕ) (i v : ℕ) → length vs ≡ length is → entries_in j (is ++ i ∷ []) (vs ++ v ∷ []) ≡ entries_in j is vs ++ record { row = i; column = j; value = v } ∷ []
unfolding entries_in
entries_in-push j [] [] i v e = refl
entries_in-push j [] (w ∷ vs) i v e = absurd (omega arith)
entries_in-push j (k ∷ is) [] i v e = absurd (omega arith)
entries_in-push j (k ∷ is) (w ∷ vs) i v e = ap (λ es. record { row = k; column = j; value = w } ∷ es) (entries_in-push j is vs i v (omega arith))

-- they are added one after another
pub entries_in_none : (es : List Entry) (j : ℕ) (is vs : List ℕ) → es ≡ es ++ entries_in j (take 0 is) (take 0 vs)
unfolding entries_in
entries_in_none es j is vs = sym (append-nil es)

-- entry n of a column, after those before it
pub entries_in_more : (old es : List Entry) (j : ℕ) (is vs : List ℕ) (n : ℕ) (new : List Entry) → length vs ≡ length is → n < length is → es ≡ old ++ entries_in j (take n is) (take n vs)
    → new ≡ es ++ record { row = get_or is n 0; column = j; value = get_or vs n 0 } ∷ [] → new ≡ old ++ entries_in j (take (n + 1) is) (take (n + 1) vs)
entries_in_more old es j is vs n new e l was is_new =
    let same : length (take n vs) ≡ length (take n is) = simp length-take (omega arith) in
    let next : entries_in j (take (n + 1) is) (take (n + 1) vs) ≡ entries_in j (take n is) (take n vs) ++ record { row = get_or is n 0; column = j; value = get_or vs n 0 } ∷ [] =
    (λ t. entries_in j (take_more is n 0 l t) (take_more vs n 0 (let m : n < length vs = omega arith in m) t)) ∙ entries_in-push j (take n is) (take n vs) (get_or is n 0) (get_or vs n 0) same in
    is_new ∙ ap (λ xs. xs ++ record { row = get_or is n 0; column = j; value = get_or vs n 0 } ∷ []) was
    ∙ append_assoc old (entries_in j (take n is) (take n vs)) (record { row = get_or is n 0; column = j; value = get_or vs n 0 } ∷ []) ∙ ap (λ xs. old ++ xs) (sym next)

-- after the last one the column is whole
pub entries_in_all : (old es : List Entry) (j : ℕ) (is vs : List ℕ) (n : ℕ) → length vs ≡ length is → length is ≤ n → es ≡ old ++ entries_in j (take n is) (take n vs) → es ≡ old ++ entries_in j is vs
entries_in_all old es j is vs n e l was = was ∙ (λ t. old ++ entries_in j (take_all n is l t) (take_all n vs (let m : length vs ≤ n = omega arith in m) t))

-- ---- a filter by the column
-- of entries that are all in a column, all are in it
pub in_column-all : (j : ℕ) (es : List Entry) → All (λ e. e.column ≡ j) es → in_column j es ≡ es
in_column-all j [] h = refl
in_column-all j (e ∷ es) h = let t = eq-eqb e.column j (All-head (λ e. e.column ≡ j) e es h) in rw t (ap (λ xs. e ∷ xs) (in_column-all j es (All-tail (λ e. e.column ≡ j) e es h)))

-- of entries that are all elsewhere, none is
pub in_column-none : (j : ℕ) (es : List Entry) → All (λ e. e.column ≢ j) es → in_column j es ≡ []
in_column-none j [] h = refl
in_column-none j (e ∷ es) h = let t = ne_eqb e.column j (All-head (λ e. e.column ≢ j) e es h) in rw t (in_column-none j es (All-tail (λ e. e.column ≢ j) e es h))

-- a column is made of its rows and values
pub entries_in-column : (j : ℕ) (es : List Entry) → entries_in j (rows_of (in_column j es)) (values_of (in_column j es)) ≡ in_column j es
unfolding entries_in
entries_in-column j [] = refl
entries_in-column j (e ∷ es) =
    let rest = entries_in-column j es in
    elim (e.column == j) as (λ b. (e.column == j) ≡ b → entries_in j (rows_of (cond b (e ∷ in_column j es) (in_column j es))) (values_of (cond b (e ∷ in_column j es) (in_column j es))) ≡ cond b (e ∷ in_column j es) (in_column j es)) [
      | true ↦ λ t. let c : j ≡ e.column = sym (eqb-true e.column j t) in λ z. record { row = e.row; column = c z; value = e.value } ∷ rest z
      | false ↦ λ _. rest
    ] refl

-- column n, after the columns before it
pub next_column : (n c : ℕ) (es : List Entry) (rs vs : List ℕ) (old new : List Entry) → c ≡ get_or (columns_with_entries es) n 0
    → rs ≡ rows_of (in_column (get_or (columns_with_entries es) n 0) es) → vs ≡ values_of (in_column (get_or (columns_with_entries es) n 0) es)
    → old ≡ pieces (λ k. in_column (get_or (columns_with_entries es) k 0) es) n → new ≡ old ++ entries_in c rs vs → new ≡ pieces (λ k. in_column (get_or (columns_with_entries es) k 0) es) (n + 1)
unfolding pieces
next_column n c es rs vs old new p q u was is =
    let e : n + 1 ≡ suc n = omega arith in
    is ∙ (λ t. was t ++ entries_in (p t) (q t) (u t)) ∙ ap (λ xs. pieces (λ k. in_column (get_or (columns_with_entries es) k 0) es) n ++ xs) (entries_in-column (get_or (columns_with_entries es) n 0) es)
    ∙ ap (pieces (λ k. in_column (get_or (columns_with_entries es) k 0) es)) (sym e)

-- ---- pieces
-- equal pieces make equal lists
pub pieces_same : (f g : ℕ → List Entry) (n : ℕ) → ((k : ℕ) → k < n → f k ≡ g k) → pieces f n ≡ pieces g n
unfolding pieces
pieces_same f g zero h = refl
pieces_same f g (suc n) h = ap (λ xs. xs ++ f n) (pieces_same f g n (λ k l. h k (omega arith))) ∙ ap (λ xs. pieces g n ++ xs) (h n (omega arith))

-- what holds of each entry of each piece holds of all
pub pieces-all : (P : Entry → Type 0) (f : ℕ → List Entry) (n : ℕ) → ((k : ℕ) → k < n → All P (f k)) → All P (pieces f n)
unfolding pieces
pieces-all P f zero h = All-nil P
pieces-all P f (suc n) h = All-append P (pieces f n) (f n) (pieces-all P f n (λ k l. h k (omega arith))) (h n (omega arith))

module _ (columns : List ℕ) (f : ℕ → List Entry) (own : (k : ℕ) → All (λ e. e.column ≡ get_or columns k 0) (f k)) (up : AllPairs (λ c d. c < d) columns) where
  -- a column that is not named has no entries
  pub no_piece : (j n : ℕ) → ((k : ℕ) → k < n → get_or columns k 0 ≢ j) → in_column j (pieces f n) ≡ []
  no_piece j n h = in_column-none j (pieces f n) (pieces-all (λ e. e.column ≢ j) f n (λ k l. All-weaker (λ e. e.column ≡ get_or columns k 0) (λ e. e.column ≢ j) (λ e p q. h k l (sym p ∙ q)) (f k) (own k)))

  -- a column that is named has those of its piece
  pub its_piece : (j n m : ℕ) → m < n → n ≤ length columns → get_or columns m 0 ≡ j → in_column j (pieces f n) ≡ f m
  unfolding pieces
  its_piece j zero m l b e = absurd (omega arith)
  its_piece j (suc n) m l b e =
      filter-append (λ e. e.column == j) (pieces f n) (f n)
      ∙ ⊎_elim
      (λ (k : m < n).
      let bigger : get_or columns m 0 < get_or columns n 0 = up m n 0 k (omega arith) in
      ap (λ xs. in_column j (pieces f n) ++ xs) (in_column-none j (f n) (All-weaker (λ e. e.column ≡ get_or columns n 0) (λ e. e.column ≢ j) (λ x p q. let c = sym p ∙ q in omega arith) (f n) (own n)))
      ∙ append-nil (in_column j (pieces f n)) ∙ its_piece j n m k (omega arith) e)
      (λ (k : n ≤ m).
      let same : m ≡ n = omega arith in
      let here : get_or columns n 0 ≡ j = ap (λ x. get_or columns x 0) (sym same) ∙ e in
      ap (λ xs. xs ++ in_column j (f n)) (no_piece j n (λ x y q. let less : get_or columns x 0 < get_or columns n 0 = up x n 0 y (omega arith) in omega arith))
      ∙ in_column-all j (f n) (All-weaker (λ e. e.column ≡ get_or columns n 0) (λ e. e.column ≡ j) (λ e p. p ∙ here) (f n) (own n))
      ∙ ap f (sym same))
      (cases_lt m n)

-- ---- the columns that have entries
with_front_begins : (c : ℕ) (ds : List ℕ) → (r : List ℕ) × (with_front c ds ≡ c ∷ r)
with_front_begins c [] = ([], refl)
with_front_begins c (d ∷ ds) =
    elim (c == d) as (λ b. (c == d) ≡ b → (r : List ℕ) × (cond b (d ∷ ds) (c ∷ d ∷ ds) ≡ c ∷ r)) [
      | true ↦ λ t. (ds, ap (λ x. x ∷ ds) (sym (eqb-true c d t)))
      | false ↦ λ _. (d ∷ ds, refl)
    ] refl

with_front_below : (c : ℕ) (ys : List Entry) → All (λ y. c < y.column) ys → with_front c (columns_with_entries ys) ≡ c ∷ columns_with_entries ys
unfolding columns_with_entries
with_front_below c [] h = refl
with_front_below c (y ∷ ys) h =
    let b = with_front_begins y.column (columns_with_entries ys) in
    let less : c < y.column = All-head (λ y. c < y.column) y ys h in
    let t = ne_eqb c y.column (omega arith) in
    rw (b.1, t) refl

with_front_again : (c : ℕ) (ds zs : List ℕ) → 0 < length ds → with_front c (ds ++ zs) ≡ with_front c ds ++ zs
with_front_again c [] zs h = absurd (omega arith)
with_front_again c (d ∷ ds) zs h = elim (c == d) as (λ b. cond b (d ∷ (ds ++ zs)) (c ∷ d ∷ (ds ++ zs)) ≡ cond b (d ∷ ds) (c ∷ d ∷ ds) ++ zs) [ true ↦ refl | false ↦ refl ]

some_column : (x : Entry) (xs : List Entry) → 0 < length (columns_with_entries (x ∷ xs))
unfolding columns_with_entries
some_column x xs = let b = with_front_begins x.column (columns_with_entries xs) in let n = ap length b.1 in omega arith

-- the columns of two lists, where those of the second come after those of the first
pub columns_with_entries-append : (xs ys : List Entry) → All (λ x. All (λ y. x.column < y.column) ys) xs → columns_with_entries (xs ++ ys) ≡ columns_with_entries xs ++ columns_with_entries ys
unfolding columns_with_entries
columns_with_entries-append [] ys h = refl
columns_with_entries-append (x ∷ []) ys h = with_front_below x.column ys (All-head (λ x. All (λ y. x.column < y.column) ys) x [] h)
columns_with_entries-append (x ∷ w ∷ xs) ys h =
    ap (with_front x.column) (columns_with_entries-append (w ∷ xs) ys (All-tail (λ x. All (λ y. x.column < y.column) ys) x (w ∷ xs) h))
    ∙ with_front_again x.column (columns_with_entries (w ∷ xs)) (columns_with_entries ys) (some_column w xs)

-- entries of one column have this one alone
pub columns_with_entries-one : (j : ℕ) (es : List Entry) → 0 < length es → All (λ e. e.column ≡ j) es → columns_with_entries es ≡ j ∷ []
unfolding columns_with_entries
columns_with_entries-one j [] l h = absurd (omega arith)
columns_with_entries-one j (e ∷ []) l h = ap (λ c. c ∷ []) (All-head (λ e. e.column ≡ j) e [] h)
columns_with_entries-one j (e ∷ f ∷ es) l h =
    let c = All-head (λ e. e.column ≡ j) e (f ∷ es) h in
    let t = eq-eqb e.column j c in
    ap (with_front e.column) (columns_with_entries-one j (f ∷ es) (omega arith) (All-tail (λ e. e.column ≡ j) e (f ∷ es) h)) ∙ rw t refl

module _ (columns : List ℕ) (f : ℕ → List Entry) (own : (k : ℕ) → All (λ e. e.column ≡ get_or columns k 0) (f k)) (up : AllPairs (λ c d. c < d) columns) (some : (k : ℕ) → k < length columns → 0 < length (f k)) where
  -- pieces that each have entries have the columns that are named
  pub columns_with_entries-pieces : (n : ℕ) → n ≤ length columns → columns_with_entries (pieces f n) ≡ take n columns
  unfolding pieces columns_with_entries
  columns_with_entries-pieces zero l = refl
  columns_with_entries-pieces (suc n) l =
      columns_with_entries-append (pieces f n) (f n)
      (pieces-all (λ x. All (λ y. x.column < y.column) (f n)) f n (λ k m.
      All-weaker (λ e. e.column ≡ get_or columns k 0) (λ x. All (λ y. x.column < y.column) (f n)) (λ x p.
      All-weaker (λ e. e.column ≡ get_or columns n 0) (λ y. x.column < y.column) (λ y q. let less : get_or columns k 0 < get_or columns n 0 = up k n 0 m (omega arith) in omega arith) (f n) (own n)) (f k) (own k)))
      ∙ ap (λ xs. xs ++ columns_with_entries (f n)) (columns_with_entries-pieces n (omega arith))
      ∙ ap (λ xs. take n columns ++ xs) (columns_with_entries-one (get_or columns n 0) (f n) (some n (omega arith)) (own n))
      ∙ rw (← add-one) (sym (take_more columns n 0 (omega arith)))
