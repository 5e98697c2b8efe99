-- Opening the lanes of one rank, one at a time.
use Rattle.std.proofs.Common.{◌≡◌, ◌≢◌, ℕ, ◌+◌, ◌<◌, ◌≤◌, List, [], ◌∷◌, ◌++◌, length, Option, None, slice_index_or, slice_set, refl, ◌∙◌, ap, subst, arith, length-append, ⊎_elim}
use Rattle.std.proofs.lemmas.Bool.{cases_lt}
use Rattle.std.proofs.lemmas.List.{get_or_read, get_or_append_left, get_or-set_other}
use Rattle.std.proofs.Math.Seq.{get_or-append_seam}
use Rattle.std.proofs.lemmas.Grind.{get_or-set_at}
use Rattle.std.specs.declared.vec.Vec.{Vec}
use Rattle.std.specs.declared.alloc.Global.{Global}
use Rattle.cb_rings.specs.declared.ring_ends.Poster.{Poster}
use Rattle.cb_rings.specs.declared.ring_ends.Taker.{Taker}
use Rattle.cb_rings.specs.Ends.{IsNewLane, AreRows, AreNewLanes, IsRow, out_at, in_at, row_at, column_at}

module _ {P : Type 0} where
  -- the lanes that were opened before are kept
  IsRow-early : (from c : ℕ) (row : List (Option (Poster P))) (old new : List (Vec (Option (Taker P)) Global)) (o : Option (Poster P)) (column : Vec (Option (Taker P)) Global)
      → IsRow from c row old new
      → (j : ℕ) (d : Vec (Option (Taker P)) Global) → j < length row
      → (length (slice_index_or (slice_set new (length row) column) j d).items ≡ from + 1)
      × ((i : ℕ) → i < from → in_at (slice_index_or (slice_set new (length row) column) j d).items i ≡ in_at (slice_index_or old j d).items i)
      × IsNewLane from j c (out_at (row ++ o ∷ []) j) (in_at (slice_index_or (slice_set new (length row) column) j d).items from)
  IsRow-early from c row old new o column h j d below =
      let apart : j ≢ length row = omega arith in
      rw (get_or-set_other new (length row) j column d apart, get_or_append_left row (o ∷ []) None j below) (h j d below)

  -- one more lane is the last of its column
  IsRow-last : (from c : ℕ) (row : List (Option (Poster P))) (old new : List (Vec (Option (Taker P)) Global)) (o : Option (Poster P)) (e : Option (Taker P)) (before column : Vec (Option (Taker P)) Global)
      → length row < length new
      → before ≡ slice_index_or new (length row) before
      → column.items ≡ before.items ++ e ∷ []
      → ((d : Vec (Option (Taker P)) Global) → slice_index_or new (length row) d ≡ slice_index_or old (length row) d)
      → ((d : Vec (Option (Taker P)) Global) → length (slice_index_or old (length row) d).items ≡ from)
      → IsNewLane from (length row) c o e
      → (d : Vec (Option (Taker P)) Global)
      → (length (slice_index_or (slice_set new (length row) column) (length row) d).items ≡ from + 1)
      × ((i : ℕ) → i < from → in_at (slice_index_or (slice_set new (length row) column) (length row) d).items i ≡ in_at (slice_index_or old (length row) d).items i)
      × IsNewLane from (length row) c (out_at (row ++ o ∷ []) (length row)) (in_at (slice_index_or (slice_set new (length row) column) (length row) d).items from)
  IsRow-last from c row old new o e before column within read grown same full lane d =
      let placed = get_or-set_at new (length row) (length row) column d refl within in
      let was : before ≡ slice_index_or old (length row) d = get_or_read new (length row) before within read d ∙ same d in
      let size : length before.items ≡ from = ap (λ (v : Vec (Option (Taker P)) Global). length v.items) was ∙ full d in
      let last : in_at column.items from ≡ e = rw (grown, ← size) (get_or-append_seam before.items e [] None) in
      rw (placed, get_or-append_seam row o [] None) (
        rw grown (omega (arith, length-append before.items (e ∷ []))),
        (λ i below. rw (grown, get_or_append_left before.items (e ∷ []) None i (omega arith)) (ap (λ (v : Vec (Option (Taker P)) Global). in_at v.items i) was)),
        rw last lane,
      )

  -- so the row is longer by one lane
  pub IsRow-step : (from c n : ℕ) (row : List (Option (Poster P))) (old new : List (Vec (Option (Taker P)) Global)) (o : Option (Poster P)) (e : Option (Taker P)) (before column : Vec (Option (Taker P)) Global)
      → length row ≡ n
      → n < length new
      → before ≡ slice_index_or new n before
      → column.items ≡ before.items ++ e ∷ []
      → ((d : Vec (Option (Taker P)) Global) → slice_index_or new n d ≡ slice_index_or old n d)
      → ((d : Vec (Option (Taker P)) Global) → length (slice_index_or old n d).items ≡ from)
      → IsNewLane from n c o e
      → IsRow from c row old new
      → IsRow from c (row ++ o ∷ []) old (slice_set new n column)
  IsRow-step from c n row old new o e before column size within read grown same full lane h j d below =
      let P : ℕ → Type 0 = λ (m : ℕ).
      (length (slice_index_or (slice_set new n column) m d).items ≡ from + 1)
      × ((i : ℕ) → i < from → in_at (slice_index_or (slice_set new n column) m d).items i ≡ in_at (slice_index_or old m d).items i)
      × IsNewLane from m c (out_at (row ++ o ∷ []) m) (in_at (slice_index_or (slice_set new n column) m d).items from)
      in
      let under : j < length row + 1 = omega (arith, length-append row (o ∷ [])) in
      ⊎_elim
      (λ (k : j < n). rw (← size) (IsRow-early from c row old new o column h j d (omega arith)))
      (λ (k : n ≤ j).
      let at_end : n ≡ j = omega arith in
      subst P at_end (rw (← size) (IsRow-last from c row old new o e before column (omega arith) (rw size read) grown (rw size same) (rw size full) (rw size lane) d)))
      (cases_lt j n)

  -- the earlier rows are kept
  before_items : (rows : List (Vec (Option (Poster P)) Global)) (row : Vec (Option (Poster P)) Global) (i : ℕ) (r : Vec (Option (Poster P)) Global)
      → i < length rows → row_at (rows ++ row ∷ []) i r ≡ row_at rows i r
  before_items rows row i r k = ap (λ (v : Vec (Option (Poster P)) Global). v.items) (get_or_append_left rows (row ∷ []) r i k)

  -- the row that is added is the last
  last_items : (rows : List (Vec (Option (Poster P)) Global)) (row r : Vec (Option (Poster P)) Global) → row_at (rows ++ row ∷ []) (length rows) r ≡ row.items
  last_items rows row r = ap (λ (v : Vec (Option (Poster P)) Global). v.items) (get_or-append_seam rows row [] r)

  -- the lanes of one more rank
  pub AreNewLanes-step : (c : ℕ) (rows : List (Vec (Option (Poster P)) Global)) (row : Vec (Option (Poster P)) Global) (old new : List (Vec (Option (Taker P)) Global))
      → length new ≡ length old
      → length row.items ≡ length old
      → IsRow (length rows) c row.items old new
      → AreNewLanes c rows old
      → AreNewLanes c (rows ++ row ∷ []) new
  AreNewLanes-step c rows row old new same wide grown h i j r d below_i below_j =
      let under : i < length rows + 1 = omega (arith, length-append rows (row ∷ [])) in
      let step = grown j d (omega arith) in
      let Q : ℕ → Type 0 = λ (m : ℕ). IsNewLane m j c (out_at (row_at (rows ++ row ∷ []) m r) j) (in_at (column_at new j d) m) in
      ⊎_elim
      (λ (k : i < length rows). rw (before_items rows row i r k, step.1 i k) (h i j r d k (omega arith)))
      (λ (k : length rows ≤ i).
      let at_end : length rows ≡ i = omega arith in
      subst Q at_end (rw (last_items rows row r) step.2))
      (cases_lt i (length rows))

  -- one more row of the same length
  pub AreRows-step : (n : ℕ) (rows : List (Vec (Option (Poster P)) Global)) (row : Vec (Option (Poster P)) Global)
      → length row.items ≡ n → AreRows rows n → AreRows (rows ++ row ∷ []) n
  AreRows-step n rows row wide h i r below =
      let under : i < length rows + 1 = omega (arith, length-append rows (row ∷ [])) in
      let Q : ℕ → Type 0 = λ (m : ℕ). length (row_at (rows ++ row ∷ []) m r) ≡ n in
      ⊎_elim
      (λ (k : i < length rows). rw (before_items rows row i r k) (h i r k))
      (λ (k : length rows ≤ i).
      let at_end : length rows ≡ i = omega arith in
      subst Q at_end (rw (last_items rows row r) wide))
      (cases_lt i (length rows))
