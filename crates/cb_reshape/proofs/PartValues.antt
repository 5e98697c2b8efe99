-- The values of a part that was moved.
use Rattle.std.proofs.Common.{◌≡◌, ◌≢◌, ℕ, ◌+◌, ◌-◌, ◌<◌, ◌≤◌, true, false, cond, List, [], ◌∷◌, sym, refl, ap, ◌∙◌, ⊎_elim, arith}
use Rattle.std.specs.Prelude.{◌==◌, ◌&&◌, Result, Ok, Err, IfOk}
use Rattle.std.proofs.lemmas.Bool.{cases_Bool, cases_eq, cond-true, cond-false, eq-eqb, ne_eqb}
use Rattle.std.proofs.lemmas.Bool.Decides.{nat_tests}
use Rattle.cb_semirings.specs.Arithmetic.{Arithmetic, IsSemiring}
use Rattle.cb_matrix.specs.declared.Entry.{Entry}
use Rattle.cb_matrix.specs.Sparse.{Sparse, Extent, IsMatrix, is_at, at, value_at}
use Rattle.cb_matrix.specs.Operations.{cut, placed, is_covered}
use Rattle.cb_matrix.proofs.Places.{is_at-parts, value_at-none}
use Rattle.cb_matrix.proofs.Equal.{matrix_is}
use Rattle.cb_reshape.specs.declared.parts.Part.{Part}
use Rattle.cb_reshape.specs.Moving.{is_in, moved_entry, moved_entries}
use Rattle.cb_reshape.proofs.PartOfColumn.{is_in-true, is_in-parts, moved_all}

-- a number moved up is the same as another one moved down
same_step : (low corner r i : ℕ) → low ≤ r → corner ≤ i → ((r - low + corner) == i) ≡ (r == (i - corner + low))
same_step low corner r i a b =
    ⊎_elim
    (λ (e : r ≡ i - corner + low). eq-eqb (r - low + corner) i (omega arith) ∙ sym (eq-eqb r (i - corner + low) e))
    (λ (n : r ≢ i - corner + low). ne_eqb (r - low + corner) i (omega arith) ∙ sym (ne_eqb r (i - corner + low) n))
    (cases_eq r (i - corner + low))

module _ (z : ℕ) (part : Part) (i j : ℕ) where
  -- the place that the place (i, j) was moved from
  abbrev row : ℕ
  row = i - part.corner.0 + part.rows.0

  abbrev column : ℕ
  column = j - part.corner.1 + part.cols.0

  -- at a place that the part goes to, the value that was there
  pub inside_value : part.rows.0 ≤ part.rows.1 → part.cols.0 ≤ part.cols.1 → part.corner.0 ≤ i → i < part.corner.0 + (part.rows.1 - part.rows.0) → part.corner.1 ≤ j → j < part.corner.1 + (part.cols.1 - part.cols.0)
      → (es : List Entry) → value_at z (moved_entries part es) i j ≡ value_at z es row column
  unfolding value_at
  inside_value rows cols a b c d [] = refl
  inside_value rows cols a b c d (e ∷ es) =
      let rest = inside_value rows cols a b c d es in
      ⊎_elim
      (λ (t : is_in part e ≡ true).
      let k = is_in-parts part e t in
      let same : is_at i j (moved_entry part e) ≡ is_at row column e = (λ u. same_step part.rows.0 part.corner.0 e.row i k.first_row a u && same_step part.cols.0 part.corner.1 e.column j k.first_column c u) in
      rw t ((λ u. cond (same u) e.value (rest u))))
      (λ (f : is_in part e ≡ false).
      let off : is_at row column e ≡ false = ⊎_elim (λ (u : is_at row column e ≡ true).
      let p = is_at-parts e row column u in
      absurd (true_false (sym (is_in-true part e (omega arith) (omega arith) (omega arith) (omega arith)) ∙ f))) (λ (u : is_at row column e ≡ false). u) (cases_Bool (is_at row column e)) in
      rw (f, off) rest)
      (cases_Bool (is_in part e))
    where
      true_false : true ≡ false → ⊥
      true_false h = cc

  -- at other places none
  pub outside_value : part.rows.0 ≤ part.rows.1 → part.cols.0 ≤ part.cols.1 → (part.corner.0 ≤ i → i < part.corner.0 + (part.rows.1 - part.rows.0) → part.corner.1 ≤ j → j < part.corner.1 + (part.cols.1 - part.cols.0) → ⊥)
      → (es : List Entry) → value_at z (moved_entries part es) i j ≡ z
  outside_value rows cols out es =
      value_at-none z (moved_entries part es) i j
      (moved_all (λ e. is_at i j e ≡ false) (λ e. e ≡ e) part es
      (λ e k _. ⊎_elim (λ (u : is_at i j (moved_entry part e) ≡ true).
      let p = is_at-parts (moved_entry part e) i j u in
      let first_row = k.first_row in let end_row = k.end_row in let first_column = k.first_column in let end_column = k.end_column in
      absurd (out (omega arith) (omega arith) (omega arith) (omega arith))) (λ (u : is_at i j (moved_entry part e) ≡ false). u) (cases_Bool (is_at i j (moved_entry part e))))
      (λ k d l. refl))

-- a part moved to row 0 and column 0 is a cut
pub cut_is : (s : Arithmetic) → IsSemiring s → (a m : Sparse) (rows cols : ℕ × ℕ) (shape : Extent) (part : Part) → rows.0 ≤ rows.1 → cols.0 ≤ cols.1 → shape ≡ record { rows = rows.1 - rows.0; cols = cols.1 - cols.0 } → part ≡ record { rows = rows; cols = cols; corner = (0, 0) }
    → IsMatrix s m → m ≡ record { shape = shape; entries = moved_entries part a.entries } → m ≡ cut s rows cols a
cut_is s laws a m rows cols shape part p q e f is h =
    matrix_is s laws m (record { rows = rows.1 - rows.0; cols = cols.1 - cols.0 }) (λ i j. at s a (rows.0 + i) (cols.0 + j)) is (ap (λ (x : Sparse). x.shape) h ∙ e) (λ i j k l.
    let row : i - 0 + rows.0 ≡ rows.0 + i = omega arith in
    let column : j - 0 + cols.0 ≡ cols.0 + j = omega arith in
    ap (λ (x : Sparse). at s x i j) h ∙ ap (λ x. value_at s.zero (moved_entries x a.entries) i j) f
    ∙ inside_value s.zero (record { rows = rows; cols = cols; corner = (0, 0) }) i j p q (omega arith) (omega arith) (omega arith) (omega arith) a.entries
    ∙ (λ t. value_at s.zero a.entries (row t) (column t)))

covered-false : (corner : ℕ × ℕ) (shape : Extent) (i j : ℕ) → is_covered corner shape i j ≡ false → corner.0 ≤ i → i < corner.0 + shape.rows → corner.1 ≤ j → j < corner.1 + shape.cols → ⊥
covered-false corner shape i j h a b c d = grind (arith, nat_tests)

covered-row : (corner : ℕ × ℕ) (shape : Extent) (i j : ℕ) → is_covered corner shape i j ≡ true → corner.0 ≤ i
covered-row corner shape i j h = grind (arith, nat_tests)

covered-end_row : (corner : ℕ × ℕ) (shape : Extent) (i j : ℕ) → is_covered corner shape i j ≡ true → i < corner.0 + shape.rows
covered-end_row corner shape i j h = grind (arith, nat_tests)

covered-column : (corner : ℕ × ℕ) (shape : Extent) (i j : ℕ) → is_covered corner shape i j ≡ true → corner.1 ≤ j
covered-column corner shape i j h = grind (arith, nat_tests)

covered-end_column : (corner : ℕ × ℕ) (shape : Extent) (i j : ℕ) → is_covered corner shape i j ≡ true → j < corner.1 + shape.cols
covered-end_column corner shape i j h = grind (arith, nat_tests)

-- a block moved to a corner is placed there
pub placed_is : (s : Arithmetic) → IsSemiring s → (a m : Sparse) (corner : ℕ × ℕ) (shape : Extent) (part : Part) → part ≡ record { rows = (0, a.shape.rows); cols = (0, a.shape.cols); corner = corner }
    → IsMatrix s m → m ≡ record { shape = shape; entries = moved_entries part a.entries } → m ≡ placed s shape corner a
placed_is s laws a m corner shape part f is h =
    let p : Part = record { rows = (0, a.shape.rows); cols = (0, a.shape.cols); corner = corner } in
    matrix_is s laws m shape (λ i j. cond (is_covered corner a.shape i j) (at s a (i - corner.0) (j - corner.1)) s.zero) is (ap (λ (x : Sparse). x.shape) h) (λ i j _ _.
    ap (λ (x : Sparse). at s x i j) h ∙ ap (λ x. value_at s.zero (moved_entries x a.entries) i j) f
    ∙ ⊎_elim
    (λ (t : is_covered corner a.shape i j ≡ true).
    let row : i - corner.0 + 0 ≡ i - corner.0 = omega arith in
    let column : j - corner.1 + 0 ≡ j - corner.1 = omega arith in
    let r = covered-row corner a.shape i j t in
    let er = covered-end_row corner a.shape i j t in
    let c = covered-column corner a.shape i j t in
    let ec = covered-end_column corner a.shape i j t in
    inside_value s.zero p i j (omega arith) (omega arith) r (omega arith) c (omega arith) a.entries
    ∙ (λ u. value_at s.zero a.entries (row u) (column u)) ∙ sym (cond-true _ _ _ t))
    (λ (n : is_covered corner a.shape i j ≡ false).
    outside_value s.zero p i j (omega arith) (omega arith) (λ r er c ec. covered-false corner a.shape i j n r (omega arith) c (omega arith)) a.entries ∙ sym (cond-false _ _ _ n))
    (cases_Bool (is_covered corner a.shape i j)))

-- the part that is all of a block
pub whole_part : (corner : ℕ × ℕ) (shape whole : Extent) (rows cols : ℕ) → rows ≡ shape.rows → cols ≡ shape.cols → shape ≡ whole
    → (let p : Part = record { rows = (0, rows); cols = (0, cols); corner = corner } in p) ≡ record { rows = (0, whole.rows); cols = (0, whole.cols); corner = corner }
whole_part corner shape whole rows cols r c e = λ t. record { rows = (0, (r ∙ ap (λ (x : Extent). x.rows) e) t); cols = (0, (c ∙ ap (λ (x : Extent). x.cols) e) t); corner = corner }

-- two facts of an answer, and what follows from both
pub both : {T E : Type 0} (r : Result T E) (P Q R : T → Type 0) → IfOk r P → IfOk r Q → ((x : T) → P x → Q x → R x) → IfOk r R
both (Ok x) P Q R p q f = f x p q
both (Err e) P Q R p q f = tt
