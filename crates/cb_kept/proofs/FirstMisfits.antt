-- The first that misfits, and what the first fault is about.
use Rattle.std.proofs.Common.{◌≡◌, ◌≢◌, ℕ, ◌+◌, ◌-◌, ◌<◌, ◌≤◌, ◌∙◌, List, length, map, get_or, slice_index, refl, sym, ap, subst, ⊎_elim, arith}
use Rattle.std.proofs.lemmas.Bool.{cases_lt}
use Rattle.std.proofs.lemmas.List.{get_or-map}
use Rattle.cb_semirings.specs.Arithmetic.{Arithmetic}
use Rattle.cb_matrix.specs.declared.TheConstants.{LIMIT}
use Rattle.cb_lists.specs.declared.lists.Columns.{Columns}
use Rattle.cb_lists.specs.Lists.{count, starts, StartsRise, HasForm, Fits, HaveLengths, AreOrdered, AreInside}
use Rattle.cb_kept.specs.declared.faults.Fault.{Fault}
use Rattle.cb_kept.specs.declared.faults.Fault.TheVariants.{Order, Place, Value}
use Rattle.cb_kept.specs.declared.triples.Triple.{Triple}
use Rattle.cb_lists.proofs.Rising.{below_last}
use Rattle.cb_kept.specs.Misfits.{IsFirst, IsEntryUnordered, IsFirstOfLists, IsListMisfit, IsTripleMisfit}
use Rattle.cb_kept.specs.Refusals.{list_faults, matrix_faults}
use Rattle.cb_kept.specs.Triples.{AreWithin, triple_faults}

module _ (c : Columns) where
  abbrev start : ℕ → ℕ
  start n = slice_index (starts c) n

  -- a column starts before each entry behind its first, and the next behind its last
  pub not_start : StartsRise c → (n m : ℕ) → n < count c → start n < m → m < start (n + 1) → (k : ℕ) → k < count c → start k ≢ m
  not_start rising n m l a b k q e =
      ⊎_elim
      (λ (r : k < n + 1). let h = below_last (starts c) n (λ j t. rising j (omega arith)) k _ (omega arith) refl in omega arith)
      (λ (r : n + 1 ≤ k). let h = below_last (starts c) k (λ j t. rising j (omega arith)) (n + 1) _ r refl in omega arith)
      (cases_lt k (n + 1))

  -- the entries of the columns before it, and those of a column up to one of them, are in order
  pub all_ordered : (n m : ℕ) → n < count c → ((k : ℕ) → k < start n → IsEntryUnordered c k → ⊥)
      → ((k : ℕ) → start n < k → k < m → slice_index c.rows.now (k - 1) < slice_index c.rows.now k) → (k : ℕ) → k < m → IsEntryUnordered c k → ⊥
  all_ordered n m l earlier ascend k q h =
      ⊎_elim
      (λ (r : k < start n). earlier k r h)
      (λ (r : start n ≤ k). ⊎_elim
      (λ (b : start n < k). let x = ascend k b q in let y = h.1 in omega arith)
      (λ (b : k ≤ start n). h.0 n l (omega arith))
      (cases_lt (start n) k))
      (cases_lt k (start n))

-- what a triple has, in the list of that of all
pub row_at : (ts : List Triple) (n : ℕ) (d : Triple) → n < length ts → slice_index (map (λ (t : Triple). t.row) ts) n ≡ (get_or ts n d).row
row_at ts n d l = get_or-map (λ (t : Triple). t.row) ts n d 0 l

pub column_at : (ts : List Triple) (n : ℕ) (d : Triple) → n < length ts → slice_index (map (λ (t : Triple). t.column) ts) n ≡ (get_or ts n d).column
column_at ts n d l = get_or-map (λ (t : Triple). t.column) ts n d 0 l

pub value_at : (ts : List Triple) (n : ℕ) (d : Triple) → n < length ts → slice_index (map (λ (t : Triple). t.value) ts) n ≡ (get_or ts n d).value
value_at ts n d l = get_or-map (λ (t : Triple). t.value) ts n d 0 l

-- none of one more has a property
pub one_more : (P : ℕ → Type 0) (n : ℕ) → ((k : ℕ) → k < n → P k → ⊥) → (P n → ⊥) → (k : ℕ) → k < n + 1 → P k → ⊥
one_more P n earlier here k l =
    ⊎_elim (λ (b : k < n). earlier k b) (λ (b : n ≤ k). let e : n ≡ k = omega arith in subst (λ m. P m → ⊥) e here) (cases_lt k n)

-- no two are first
pub one_first : (P : ℕ → Type 0) (count m n : ℕ) → IsFirst P count m → IsFirst P count n → m ≡ n
one_first P count m n a b =
    ⊎_elim
    (λ (l : m < n). let w = b.within in absurd (b.before m l (a.here (omega arith))))
    (λ (l : n ≤ m). ⊎_elim
    (λ (k : n < m). let w = a.within in absurd (a.before n k (b.here (omega arith))))
    (λ (k : m ≤ n). omega arith)
    (cases_lt n m))
    (cases_lt m n)

module _ (c : Columns) (P Q : ℕ → Type 0) (n at : ℕ) (first : IsFirst P (count c) n) where
  -- a stored column misfits
  pub at_column : n < count c → at ≡ length c.rows.now + n → IsFirstOfLists c P Q at
  at_column l e = record {
    columns = λ m k h. e ∙ ap (λ x. length c.rows.now + x) (one_first P (count c) n m first h);
    entries = λ h. absurd (h.before n l (first.here l));
  }

  -- none does
  pub at_entry : count c ≤ n → IsFirst Q (length c.rows.now) at → IsFirstOfLists c P Q at
  at_entry l here = record {
    columns = λ m k h. absurd (first.before m (omega arith) (h.here k));
    entries = λ h. here;
  }

module _ (s : Arithmetic) (c : Columns) (f : Fault) (at : ℕ) where
  abbrev is : Fault → Type 0
  is g = IsListMisfit s c g at

  -- what the first three faults are about isn't told
  pub no_misfit : (HasForm c × Fits c × HaveLengths c → ⊥) → list_faults s c f → is f
  unfolding list_faults matrix_faults
  no_misfit n h =
      ⊎_elim (λ a. subst is (sym a.0) tt) (λ a.
      ⊎_elim (λ b. subst is (sym b.0) tt) (λ b.
      ⊎_elim (λ d. subst is (sym d.0) tt) (λ d. absurd (n (a.0, b.0, d.0))) b.1) a.1) h

  module _ (form : HasForm c) (fits : Fits c) (lengths : HaveLengths c) where
    pub order_misfit : (AreOrdered c → ⊥) → is Order → list_faults s c f → is f
    unfolding list_faults matrix_faults
    order_misfit n m h =
        ⊎_elim (λ a. absurd (a.1 form)) (λ a.
        ⊎_elim (λ b. absurd (b.1 fits)) (λ b.
        ⊎_elim (λ d. absurd (d.1 lengths)) (λ d.
        ⊎_elim (λ e. subst is (sym e.0) m) (λ e. absurd (n e.0)) d.1) b.1) a.1) h

    module _ (ordered : AreOrdered c) where
      pub place_misfit : (AreInside c → ⊥) → is Place → list_faults s c f → is f
      unfolding list_faults matrix_faults
      place_misfit n m h =
          ⊎_elim (λ a. absurd (a.1 form)) (λ a.
          ⊎_elim (λ b. absurd (b.1 fits)) (λ b.
          ⊎_elim (λ d. absurd (d.1 lengths)) (λ d.
          ⊎_elim (λ e. absurd (e.1 ordered)) (λ e.
          ⊎_elim (λ i. subst is (sym i.0) m) (λ i. absurd (n i.0)) e.1) d.1) b.1) a.1) h

      pub value_misfit : AreInside c → is Value → list_faults s c f → is f
      unfolding list_faults matrix_faults
      value_misfit inside m h =
          ⊎_elim (λ a. absurd (a.1 form)) (λ a.
          ⊎_elim (λ b. absurd (b.1 fits)) (λ b.
          ⊎_elim (λ d. absurd (d.1 lengths)) (λ d.
          ⊎_elim (λ e. absurd (e.1 ordered)) (λ e.
          ⊎_elim (λ i. absurd (i.1 inside)) (λ i.
          ⊎_elim (λ v. subst is (sym v.0) m) (λ v. subst is (sym v.1) tt) i.1) e.1) d.1) b.1) a.1) h

module _ (s : Arithmetic) (nrows ncols : ℕ) (ts : List Triple) (f : Fault) (at : ℕ) where
  abbrev is_about : Fault → Type 0
  is_about g = IsTripleMisfit s nrows ncols ts g at

  pub no_triple : ((nrows ≤ LIMIT) × (ncols ≤ LIMIT) → ⊥) → triple_faults s nrows ncols ts f → is_about f
  unfolding triple_faults
  no_triple n h = ⊎_elim (λ a. subst is_about (sym a.0) tt) (λ a. absurd (n a.0)) h

  module _ (fits : (nrows ≤ LIMIT) × (ncols ≤ LIMIT)) where
    pub outside_triple : (AreWithin (record { rows = nrows; cols = ncols }) ts → ⊥) → is_about Place → triple_faults s nrows ncols ts f → is_about f
    unfolding triple_faults
    outside_triple n m h =
        ⊎_elim (λ a. absurd (a.1 fits)) (λ a.
        ⊎_elim (λ b. subst is_about (sym b.0) m) (λ b. absurd (n b.0)) a.1) h

    pub other_triple : AreWithin (record { rows = nrows; cols = ncols }) ts → is_about Value → triple_faults s nrows ncols ts f → is_about f
    unfolding triple_faults
    other_triple within m h =
        ⊎_elim (λ a. absurd (a.1 fits)) (λ a.
        ⊎_elim (λ b. absurd (b.1 within)) (λ b.
        ⊎_elim (λ v. subst is_about (sym v.0) m) (λ v. subst is_about (sym v.1) tt) b.1) a.1) h
