-- Lists of blocks that are cut before their last, and the entries that are appended to each.
use Rattle.std.proofs.Common.{◌≡◌, ℕ, ◌+◌, ◌-◌, ◌<◌, ◌≤◌, List, ◌++◌, length, refl, sym, ap, subst, ⊎_elim, ◌∙◌, arith, length-append}
use Rattle.std.specs.Prelude.{Result, Ok, Err, OnOk}
use Rattle.std.proofs.lemmas.Bool.{cases_lt}
use Rattle.std.proofs.lemmas.List.{get_or_append_left, get_or-append_right}
use Rattle.cb_semirings.specs.Arithmetic.{Arithmetic}
use Rattle.cb_matrix.specs.Sparse.{Sparse, IsMatrix}
use Rattle.cb_dcsc.specs.Columns.{with_entries}
use Rattle.cb_grid.specs.Blocks.{block_at}
use Rattle.cb_layout.specs.Distributed.{MayBeAppended, AreAppended}

-- a block of the first of two lists
at_front : (front back : List Sparse) (r : ℕ) → r < length front → block_at (front ++ back) r ≡ block_at front r
at_front front back r l = get_or_append_left front back _ r l

-- a block of the second
at_back : (front back : List Sparse) (r : ℕ) → length front ≤ r → block_at (front ++ back) r ≡ block_at back (r - length front)
at_back front back r l = get_or-append_right front back (length front) r _ refl l

-- what is said of two lists holds of parts of them
part_appended : (s : Arithmetic) (xs ys us vs : List Sparse) (place : ℕ → ℕ) → length vs ≡ length us → MayBeAppended s xs ys
    → ((r : ℕ) → r < length vs → (place r < length ys) × (block_at xs (place r) ≡ block_at us r) × (block_at ys (place r) ≡ block_at vs r)) → MayBeAppended s us vs
part_appended s xs ys us vs place e may at = record {
  count = e;
  shapes = λ r l. let a = at r l in ap (λ (m : Sparse). m.shape) (sym a.2) ∙ may.shapes (place r) a.0 ∙ ap (λ (m : Sparse). m.shape) a.1;
  matrices = λ r l. let a = at r l in subst (λ (m : Sparse). IsMatrix s m) (λ t. with_entries (a.1 t) (a.2 t).entries) (may.matrices (place r) a.0);
}

module _ (s : Arithmetic) (xs ys front back front_others back_others : List Sparse) (cut : xs ≡ front ++ back) (cut_others : ys ≡ front_others ++ back_others) (same : length front_others ≡ length front)
    (one : length back ≡ 1) where
  -- those before the last
  pub front_appended : MayBeAppended s xs ys → MayBeAppended s front front_others
  front_appended may =
      part_appended s xs ys front front_others (λ r. r) same may (λ r l.
      let total = ap length cut_others ∙ length-append front_others back_others in (
        omega arith,
        ap (λ zs. block_at zs r) cut ∙ at_front front back r (omega arith),
        ap (λ zs. block_at zs r) cut_others ∙ at_front front_others back_others r l,
      ))

  -- the last
  pub back_appended : MayBeAppended s xs ys → MayBeAppended s back back_others
  back_appended may =
      let count = may.count in
      let total = ap length cut ∙ length-append front back in
      let total_others = ap length cut_others ∙ length-append front_others back_others in
      let n = length front in
      part_appended s xs ys back back_others (λ r. n + r) (omega arith) may (λ r l.
      let here : (n + r) - length front ≡ r = omega arith in
      let there : (n + r) - length front_others ≡ r = omega arith in (
        omega arith,
        ap (λ zs. block_at zs (n + r)) cut ∙ at_back front back (n + r) (omega arith) ∙ ap (λ k. block_at back k) here,
        ap (λ zs. block_at zs (n + r)) cut_others ∙ at_back front_others back_others (n + r) (omega arith) ∙ ap (λ k. block_at back_others k) there,
      ))

  -- both together
  pub all_appended : (front' back' : List Sparse) → MayBeAppended s xs ys → AreAppended front front_others front' → AreAppended back back_others back' → AreAppended xs ys (front' ++ back')
  all_appended front' back' may a b =
      let count = may.count in
      let n = a.count in
      let m = b.count in
      let total = ap length cut ∙ length-append front back in
      let total_others = ap length cut_others ∙ length-append front_others back_others in
      let total_new = length-append front' back' in
      record {
        count = omega arith;
        each = λ r l.
            ⊎_elim
            (λ (u : r < length front).
            at_front front' back' r (omega arith) ∙ a.each r (omega arith)
            ∙ (λ t. with_entries (sym (ap (λ zs. block_at zs r) cut ∙ at_front front back r u) t) (sym (ap (λ zs. block_at zs r) cut_others ∙ at_front front_others back_others r (omega arith)) t).entries))
            (λ (u : length front ≤ r).
            let k : r - length front' ≡ r - length front = ap (λ i. r - i) n in
            let j : r - length front_others ≡ r - length front = ap (λ i. r - i) same in
            at_back front' back' r (omega arith) ∙ ap (λ i. block_at back' i) k ∙ b.each (r - length front) (omega arith)
            ∙ (λ t. with_entries (sym (ap (λ zs. block_at zs r) cut ∙ at_back front back r u) t) (sym (ap (λ zs. block_at zs r) cut_others ∙ at_back front_others back_others r (omega arith) ∙ ap (λ i. block_at back_others i) j) t).entries))
            (cases_lt r (length front));
      }

-- what two facts together say, where both hold if a call succeeds
pub on_ok_both : {T E : Type 0} (r : Result T E) (P Q R : Type 0) → (P → Q → R) → OnOk r P → OnOk r Q → OnOk r R
on_ok_both (Ok x) P Q R both p q = both p q
on_ok_both (Err e) P Q R both p q = tt
