-- The entries that are left during a walk over the matrix that blocks glue to.
use Rattle.std.proofs.Common.{◌≡◌, ◌≢◌, ℕ, ◌+◌, ◌*◌, ◌/◌, ◌%◌, ◌<◌, ◌≤◌, ◌⊎◌, inl, inr, true, false, Bool, List, [], ◌++◌, length, get_or, set, filter, sym, ap, ⊎_elim, ◌∙◌, arith}
use Rattle.std.specs.Prelude.{All, AllPairs, ◌==◌, ◌&&◌, ◌||◌, nat_lt, nat_le}
use Rattle.std.proofs.lemmas.Bool.{cases_lt, cases_eq, cases_order, cases_Bool, eqb-true, and_parts}
use Rattle.std.proofs.lemmas.Bool.Decides.{nat_tests}
use Rattle.cb_semirings.specs.Arithmetic.{Arithmetic, IsSemiring}
use Rattle.cb_matrix.specs.declared.Entry.{Entry}
use Rattle.cb_matrix.specs.Sparse.{Extent, Sparse, IsBefore, IsInside}
use Rattle.cb_grid.specs.Parts.{part_start, part_length}
use Rattle.cb_grid.specs.Blocks.{part_with, place_in_part, glued_blocks}
use Rattle.cb_layout.specs.Distributed.{AreBlocks}
use Rattle.cb_layout.specs.Fronts.{columns_in, IsLeast, IsFront}
use Rattle.cb_layout.specs.Segments.{is_left, entries_left}
use Rattle.cb_layout.specs.declared.front.Front.{Front}
use Rattle.cb_grid.proofs.Parts.{row_of_rank, column_of_rank, part_below, start_there, place_below, part_order}
use Rattle.cb_layout.proofs.Fronts.{first_is_least, none_between, next_above, least_known, least_is, next_own, next_other}
use Rattle.cb_layout.proofs.Splits.{filter_none, filter_all, filter_same, filter_split}
use Rattle.cb_layout.proofs.BlockColumns.{whole_is_matrix, columns_up, of_columns}

-- the test of an entry in part j, at place x of it, where column c of the grid is walked and a is its block's next
abbrev test : ℕ → ℕ → ℕ → ℕ → Bool
test c j a x = nat_lt c j || ((j == c) && nat_le a x)

lt_true : (a b : ℕ) → a < b → nat_lt a b ≡ true
lt_true a b l = grind (arith, nat_tests)

lt_false : (a b : ℕ) → b ≤ a → nat_lt a b ≡ false
lt_false a b l = grind (arith, nat_tests)

le_true : (a b : ℕ) → a ≤ b → nat_le a b ≡ true
le_true a b l = grind (arith, nat_tests)

le_false : (a b : ℕ) → b < a → nat_le a b ≡ false
le_false a b l = grind (arith, nat_tests)

eq_true : (a b : ℕ) → a ≡ b → (a == b) ≡ true
eq_true a b l = grind (arith, nat_tests)

eq_false : (a b : ℕ) → a ≢ b → (a == b) ≡ false
eq_false a b l = grind (arith, nat_tests)

-- in the column that is walked the place decides, and elsewhere the column
test_here : (c j a x : ℕ) → j ≡ c → test c j a x ≡ nat_le a x
test_here c j a x p = λ i. lt_false c j (omega arith) i || (eq_true j c p i && nat_le a x)

test_elsewhere : (c j a x : ℕ) → j ≢ c → test c j a x ≡ nat_lt c j
test_elsewhere c j a x ne =
    ⊎_elim
    (λ (p : j ≡ c). absurd (ne p))
    (⊎_elim
    (λ (l : j < c). let f = lt_false c j (omega arith) in (λ i. f i || (eq_false j c ne i && nat_le a x)) ∙ sym f)
    (λ (l : c < j). let t = lt_true c j l in (λ i. t i || ((j == c) && nat_le a x)) ∙ sym t))
    (cases_order j c)

both_ways : (b : Bool) → b ≡ true → b ≡ false → ⊥
both_ways b t f = let e : true ≡ false = sym t ∙ f in cc

test_true : (c j a x : ℕ) → test c j a x ≡ true → (c < j) ⊎ ((j ≡ c) × (a ≤ x))
test_true c j a x t =
    ⊎_elim
    (λ (p : j ≡ c).
    ⊎_elim
    (λ (l : x < a). absurd (both_ways (test c j a x) t (test_here c j a x p ∙ le_false a x l)))
    (λ (l : a ≤ x). inr (p, l))
    (cases_lt x a))
    (⊎_elim
    (λ (l : j < c). absurd (both_ways (test c j a x) t (test_elsewhere c j a x (omega arith) ∙ lt_false c j (omega arith))))
    (λ (l : c < j). inl l))
    (cases_order j c)

-- one more column
step_test : (c n x : ℕ) → c < n → (x < c) ⊎ ((x ≡ c) ⊎ (n ≤ x)) → nat_le c x ≡ ((x == c) || nat_le n x)
step_test c n x l h =
    ⊎_elim
    (λ (k : x < c). le_false c x k ∙ sym (λ i. eq_false x c (omega arith) i || le_false n x (omega arith) i))
    (⊎_elim
    (λ (k : x ≡ c). le_true c x (omega arith) ∙ sym (λ i. eq_true x c k i || nat_le n x))
    (λ (k : n ≤ x). le_true c x (omega arith) ∙ sym (λ i. eq_false x c (omega arith) i || le_true n x k i)))
    h

module _ (s : Arithmetic) (laws : IsSemiring s) (q : ℕ) (shape : Extent) (blocks : List Sparse) (are : AreBlocks s q shape blocks) where
  abbrev es : List Entry
  es = (glued_blocks s q shape blocks).entries

  module _ (k : ℕ) (d : Entry) (l : k < length es) where
    -- the parts that an entry is in, and its place in the second
    abbrev e : Entry
    e = get_or es k d

    abbrev row_part : ℕ
    row_part = part_with q shape.rows e.row

    abbrev column_part : ℕ
    column_part = part_with q shape.cols e.column

    abbrev place : ℕ
    place = place_in_part q shape.cols e.column

    inside : IsInside shape e
    inside = (whole_is_matrix s laws q shape blocks are).inside k d l

    row_part_below : row_part < q
    row_part_below = part_below q shape.rows are.some e.row inside.0

    column_part_below : column_part < q
    column_part_below = part_below q shape.cols are.some e.column inside.1

    place_limit : place < shape.cols
    place_limit = let m : place < part_length q shape.cols column_part = place_below q shape.cols are.some e.column inside.1 in omega arith

    there : part_start q shape.cols column_part + place ≡ e.column
    there = start_there q shape.cols are.some e.column inside.1

    abbrev rank : ℕ
    rank = row_part * q + column_part

    -- its rank says both parts
    same_row : (i j : ℕ) → j < q → rank ≡ i * q + j → row_part ≡ i
    same_row i j m h = sym (row_of_rank q row_part column_part column_part_below) ∙ ap (λ n. n / q) h ∙ row_of_rank q i j m

    same_column : (i j : ℕ) → j < q → rank ≡ i * q + j → column_part ≡ j
    same_column i j m h = sym (column_of_rank q row_part column_part column_part_below) ∙ ap (λ n. n % q) h ∙ column_of_rank q i j m

  -- at the start of a column of the grid all entries of it, and after it, are left
  pub started : (f : Front) → IsFront q shape blocks f → ((i : ℕ) → get_or f.done i 0 ≡ 0) → All (λ e. is_left q shape f e ≡ nat_le f.column (part_with q shape.cols e.column)) es
  started f front start k d l =
      let i = row_part k d l in
      let j = column_part k d l in
      let x = place k d l in
      let row = row_part_below k d l in
      let a = get_or f.columns i 0 in
      ⊎_elim
      (λ (p : j ≡ f.column).
      let cs = columns_in q blocks f.column i in
      let first : a ≡ get_or cs 0 4294967295 = front.next i row ∙ ap (λ n. get_or cs n 4294967295) (start i) in
      let least : get_or cs 0 4294967295 ≤ x =
      of_columns s laws q shape blocks are (λ c. get_or cs 0 4294967295 ≤ c) i f.column row front.column (first_is_least cs 4294967295 (columns_up s laws q shape blocks are i f.column row front.column)) k d l (ap (λ n. i * q + n) p) in
      test_here f.column j a x p ∙ le_true a x (omega arith) ∙ sym (le_true f.column j (omega arith)))
      (λ (p : j ≢ f.column).
      test_elsewhere f.column j a x p
      ∙ ⊎_elim
      (λ (m : f.column < j). lt_true f.column j m ∙ sym (le_true f.column j (omega arith)))
      (λ (m : j ≤ f.column). lt_false f.column j m ∙ sym (le_false f.column j (omega arith)))
      (cases_lt f.column j))
      (cases_eq j f.column)

  -- if no block has a next column, only entries after that column of the grid are left
  pub finished : (f : Front) → IsFront q shape blocks f → ((k : ℕ) → k < q → 4294967295 ≤ get_or f.columns k 0) → All (λ e. is_left q shape f e ≡ nat_lt f.column (part_with q shape.cols e.column)) es
  finished f front none k d l =
      let i = row_part k d l in
      let j = column_part k d l in
      let x = place k d l in
      let row = row_part_below k d l in
      let a = get_or f.columns i 0 in
      ⊎_elim
      (λ (p : j ≡ f.column).
      let past : 4294967295 ≤ a = none i row in
      let below = place_limit k d l in
      let limit = front.limit in
      test_here f.column j a x p ∙ le_false a x (omega arith) ∙ sym (lt_false f.column j (omega arith)))
      (λ (p : j ≢ f.column). test_elsewhere f.column j a x p)
      (cases_eq j f.column)

  -- all are left at the start of the first column of the grid
  pub all_left : (f : Front) → IsFront q shape blocks f → ((i : ℕ) → get_or f.done i 0 ≡ 0) → f.column ≡ 0 → entries_left s q shape blocks f ≡ es
  all_left f front start first = filter_all (is_left q shape f) es (λ k d l. started f front start k d l ∙ le_true f.column (column_part k d l) (omega arith))

  -- as many at the start of the next column of the grid as at the end of one
  pub next_left : (f g : Front) → IsFront q shape blocks f → ((k : ℕ) → k < q → 4294967295 ≤ get_or f.columns k 0) → IsFront q shape blocks g → ((i : ℕ) → get_or g.done i 0 ≡ 0) → g.column ≡ f.column + 1
      → entries_left s q shape blocks g ≡ entries_left s q shape blocks f
  next_left f g front none next start column =
      filter_same (is_left q shape g) (is_left q shape f) es (λ k d l.
      let j = column_part k d l in
      started g next start k d l
      ∙ ⊎_elim
      (λ (m : f.column < j). le_true g.column j (omega arith) ∙ sym (lt_true f.column j m))
      (λ (m : j ≤ f.column). le_false g.column j (omega arith) ∙ sym (lt_false f.column j m))
      (cases_lt f.column j)
      ∙ sym (finished f front none k d l))

  -- and none at the end of the last
  pub none_left : (f : Front) → IsFront q shape blocks f → ((k : ℕ) → k < q → 4294967295 ≤ get_or f.columns k 0) → q ≤ f.column + 1 → entries_left s q shape blocks f ≡ []
  none_left f front none last =
      filter_none (is_left q shape f) es (λ k d l. let below = column_part_below k d l in finished f front none k d l ∙ lt_false f.column (column_part k d l) (omega arith))

  module _ (f : Front) (front : IsFront q shape blocks f) (i c : ℕ) (least : IsLeast q f.columns i c) (g : Front) (column : g.column ≡ f.column) (left : g.left ≡ f.left)
      (done : g.done ≡ set f.done i (get_or f.done i 0 + 1)) (columns : g.columns ≡ set f.columns i (get_or (columns_in q blocks f.column i) (get_or f.done i 0 + 1) 4294967295)) where
    abbrev cs : List ℕ
    cs = columns_in q blocks f.column i

    abbrev next : ℕ
    next = get_or cs (get_or f.done i 0 + 1) 4294967295

    -- whether an entry stands in that column of that block
    abbrev pub is_next : Entry → Bool
    is_next e = (part_with q shape.rows e.row * q + part_with q shape.cols e.column == i * q + f.column) && (place_in_part q shape.cols e.column == get_or cs (get_or f.done i 0) 0)

    row : i < q
    row = least.row

    known : get_or f.done i 0 < length cs
    known = least_known q shape blocks f front i c least

    c_is : c ≡ get_or cs (get_or f.done i 0) 0
    c_is = least_is q shape blocks f front i c least

    above : c < next
    above =
        let up = columns_up s laws q shape blocks are i f.column row front.column in
        let some = least.some in
        let at = c_is in
        let m : get_or cs (get_or f.done i 0) 0 < next = next_above cs (get_or f.done i 0) 4294967295 known up (omega arith) in
        omega arith

    own_column : get_or g.columns i 0 ≡ next
    own_column = next_own q shape blocks f front i c least g column left done columns

    other_column : (k : ℕ) → k ≢ i → get_or g.columns k 0 ≡ get_or f.columns k 0
    other_column k ne = next_other q shape blocks f front i c least g column left done columns k ne

    -- an entry is left if it is in the next column, or is left after it
    each : All (λ e. is_left q shape f e ≡ (is_next e || is_left q shape g e)) es
    each k d l =
        let u = row_part k d l in
        let j = column_part k d l in
        let x = place k d l in
        let r = rank k d l in
        let a = get_or f.columns u 0 in
        let b = get_or g.columns u 0 in
        let cn = get_or cs (get_or f.done i 0) 0 in
        ⊎_elim
        (λ (p : j ≡ f.column).
        let p' : j ≡ g.column = p ∙ sym column in
        ⊎_elim
        (λ (o : u ≡ i).
        let own : (r == i * q + f.column) ≡ true = eq_true r (i * q + f.column) (λ n. o n * q + p n) in
        let between = of_columns s laws q shape blocks are (λ y. (y < cn) ⊎ ((y ≡ cn) ⊎ (next ≤ y))) i f.column row front.column (none_between cs (get_or f.done i 0) 4294967295 known (columns_up s laws q shape blocks are i f.column row front.column)) k d l (λ n. o n * q + p n) in
        let at_f : a ≡ cn = ap (λ n. get_or f.columns n 0) o ∙ sym least.there ∙ c_is in
        let at_g : b ≡ next = ap (λ n. get_or g.columns n 0) o ∙ own_column in
        let more : cn < next = let m = above in let h = c_is in omega arith in
        test_here f.column j a x p
        ∙ ap (λ n. nat_le n x) at_f
        ∙ step_test cn next x more between
        ∙ sym (λ n. (own n && (x == cn)) || (test_here g.column j b x p' ∙ ap (λ m. nat_le m x) at_g) n))
        (λ (o : u ≢ i).
        let other : (r == i * q + f.column) ≡ false = eq_false r (i * q + f.column) (λ h. o (same_row k d l i f.column front.column h)) in
        test_here f.column j a x p
        ∙ ap (λ n. nat_le n x) (sym (other_column u o))
        ∙ sym (λ n. (other n && (x == cn)) || test_here g.column j b x p' n))
        (cases_eq u i))
        (λ (p : j ≢ f.column).
        let p' : j ≢ g.column = λ h. p (h ∙ column) in
        let other : (r == i * q + f.column) ≡ false = eq_false r (i * q + f.column) (λ h. p (same_column k d l i f.column front.column h)) in
        test_elsewhere f.column j a x p
        ∙ ap (λ n. nat_lt n j) (sym column)
        ∙ sym (λ n. (other n && (x == cn)) || test_elsewhere g.column j b x p' n))
        (cases_eq j f.column)

    -- an entry in the next column: its parts, and its place
    next_parts : (k : ℕ) (d : Entry) (l : k < length es) → is_next (get_or es k d) ≡ true → (row_part k d l ≡ i) × (column_part k d l ≡ f.column) × (place k d l ≡ c)
    next_parts k d l h =
        let parts = and_parts (rank k d l == i * q + f.column) (place k d l == get_or cs (get_or f.done i 0) 0) h in
        let own = eqb-true (rank k d l) (i * q + f.column) parts.0 in (
          same_row k d l i f.column front.column own,
          same_column k d l i f.column front.column own,
          eqb-true (place k d l) (get_or cs (get_or f.done i 0) 0) parts.1 ∙ sym c_is,
        )

    apart : All (λ e. is_left q shape g e ≡ true → is_next e ≡ false) es
    apart k d l t =
        ⊎_elim
        (λ (h : is_next (get_or es k d) ≡ true).
        let parts = next_parts k d l h in
        let at : get_or g.columns (row_part k d l) 0 ≡ next = ap (λ n. get_or g.columns n 0) parts.0 ∙ own_column in
        let x = parts.2 in
        let j = parts.1 in
        let more = above in
        ⊎_elim (λ m. absurd (omega arith)) (λ m. absurd (omega arith)) (test_true g.column (column_part k d l) (get_or g.columns (row_part k d l) 0) (place k d l) t))
        (λ (h : is_next (get_or es k d) ≡ false). h)
        (cases_Bool (is_next (get_or es k d)))

    -- and no entry that is left after it stands before one in it
    ordered : AllPairs (λ e f. is_left q shape g e ≡ true → is_next f ≡ false) es
    ordered k m d b l t =
        let kl : k < length es = omega arith in
        ⊎_elim
        (λ (h : is_next (get_or es m d) ≡ true).
        let parts = next_parts m d l h in
        let before : IsBefore (get_or es k d) (get_or es m d) = (whole_is_matrix s laws q shape blocks are).ascending k m d b l in
        absurd (clash k m d kl l parts.0 parts.1 parts.2 before (test_true g.column (column_part k d kl) (get_or g.columns (row_part k d kl) 0) (place k d kl) t)))
        (λ (h : is_next (get_or es m d) ≡ false). h)
        (cases_Bool (is_next (get_or es m d)))
      where
        clash : (k m : ℕ) (d : Entry) (kl : k < length es) (l : m < length es) → row_part m d l ≡ i → column_part m d l ≡ f.column → place m d l ≡ c → IsBefore (get_or es k d) (get_or es m d)
            → (g.column < column_part k d kl) ⊎ ((column_part k d kl ≡ g.column) × (get_or g.columns (row_part k d kl) 0 ≤ place k d kl)) → ⊥
        clash k m d kl l p j x before left_there =
            let not_after : (get_or es k d).column ≤ (get_or es m d).column = ⊎_elim (λ h. omega arith) (λ h. omega arith) before in
            let order : column_part k d kl ≤ column_part m d l = part_order q shape.cols are.some (get_or es k d).column (get_or es m d).column (inside k d kl).1 not_after in
            ⊎_elim
            (λ (h : g.column < column_part k d kl). omega arith)
            (λ (h : (column_part k d kl ≡ g.column) × (get_or g.columns (row_part k d kl) 0 ≤ place k d kl)).
            let here : column_part k d kl ≡ column_part m d l = h.0 ∙ column ∙ sym j in
            let at_k = ap (λ n. part_start q shape.cols n + place k d kl) (sym here) ∙ there k d kl in
            let at_m = there m d l in
            let low = h.1 in
            ⊎_elim
            (λ (o : row_part k d kl ≡ i).
            let at : get_or g.columns (row_part k d kl) 0 ≡ next = ap (λ n. get_or g.columns n 0) o ∙ own_column in
            let more = above in
            omega arith)
            (λ (o : row_part k d kl ≢ i).
            let at : get_or g.columns (row_part k d kl) 0 ≡ get_or f.columns (row_part k d kl) 0 = other_column (row_part k d kl) o in
            ⊎_elim
            (λ (w : row_part k d kl < i). let first = least.first (row_part k d kl) w in omega arith)
            (λ (w : i ≤ row_part k d kl).
            let row_below = row_part_below k d kl in
            let lowest : c ≤ get_or f.columns (row_part k d kl) 0 = least.least (row_part k d kl) row_below in
            let same : (get_or es k d).column ≡ (get_or es m d).column = omega arith in
            let less : (get_or es k d).row < (get_or es m d).row = ⊎_elim (λ h. absurd (omega arith)) (λ h. h.1) before in
            let last : row_part k d kl ≤ row_part m d l = part_order q shape.rows are.some (get_or es k d).row (get_or es m d).row (inside k d kl).0 (omega arith) in
            omega arith)
            (cases_lt (row_part k d kl) i))
            (cases_eq (row_part k d kl) i))
            left_there

    -- the entries that are left are those in the next column, and those that are left after it
    pub stepped_left : entries_left s q shape blocks f ≡ filter is_next es ++ entries_left s q shape blocks g
    stepped_left = filter_split (is_left q shape f) is_next (is_left q shape g) es each apart ordered
