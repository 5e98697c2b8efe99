-- A matrix updated by another one, place by place.
use Rattle.std.proofs.Common.{◌≡◌, ℕ, ◌<◌, true, false, Some, None, sym, refl, ap, ◌∙◌}
use Rattle.std.specs.Prelude.{Bool, cond, not}
use Rattle.std.proofs.lemmas.Bool.{cond-true, cond-false}
use Rattle.cb_semirings.specs.Arithmetic.{Arithmetic, IsValue, IsSemiring}
use Rattle.cb_matrix.specs.Sparse.{Sparse, IsMatrix, at, value_at}
use Rattle.cb_matrix.specs.Values.{matrix_of, empty_matrix}
use Rattle.cb_matrix.specs.Operations.{has_entry, sum_of}
use Rattle.cb_matrix.proofs.Made.{same_matrix_of, at-matrix_of}
use Rattle.cb_matrix.proofs.Totals.{add_zero, value_at-value}
use Rattle.cb_matrix.proofs.Equal.{matrix_is}
use Rattle.cb_selections.specs.declared.updates.WriteBack.{WriteBack}
use Rattle.cb_selections.specs.Updates.{allows, written, updated, allowed}

-- ---- at one place
module _ (s : Arithmetic) (laws : IsSemiring s) (how : WriteBack) (x y : ℕ) (is_x : IsValue s x) (is_y : IsValue s y) where
  on_old : how.accumulate ≡ true → how.replace ≡ false → (b : Bool) → s.add x (cond b y s.zero) ≡ written s how b x y
  on_old p q true = sym (cond-true how.accumulate (s.add x y) y p)
  on_old p q false = add_zero s laws x is_x ∙ sym (cond-false how.replace s.zero x q)

  on_allowed : how.accumulate ≡ true → how.replace ≡ true → (b : Bool) → s.add (cond b x s.zero) (cond b y s.zero) ≡ written s how b x y
  on_allowed p q true = sym (cond-true how.accumulate (s.add x y) y p)
  on_allowed p q false = laws.zero_add s.zero laws.zero_value ∙ sym (cond-true how.replace s.zero x q)

  beside_old : how.accumulate ≡ false → how.replace ≡ false → (b : Bool) → s.add (cond (not b) x s.zero) (cond b y s.zero) ≡ written s how b x y
  beside_old p q true = laws.zero_add y is_y ∙ sym (cond-false how.accumulate (s.add x y) y p)
  beside_old p q false = add_zero s laws x is_x ∙ sym (cond-false how.replace s.zero x q)

-- the complement of a complement, and of none
other_way : (c : Bool) (t : Bool) → cond (not c) (not t) t ≡ not (cond c (not t) t)
other_way true true = refl
other_way true false = refl
other_way false t = refl

-- ---- the update
module _ (s : Arithmetic) (laws : IsSemiring s) (how : WriteBack) (old new : Sparse) (is_old : IsMatrix s old) (is_new : IsMatrix s new) (same : new.shape ≡ old.shape) where
  old_value : (i j : ℕ) → IsValue s (at s old i j)
  old_value i j = value_at-value s laws old.entries i j is_old.values

  new_value : (i j : ℕ) → IsValue s (at s new i j)
  new_value i j = value_at-value s laws new.entries i j is_new.values

  -- without a mask
  pub all_dropped : (empty : Sparse) → IsMatrix s empty → empty ≡ empty_matrix old.shape → how.complement ≡ true → how.replace ≡ true → empty ≡ updated s how None old new
  unfolding value_at
  all_dropped empty is e c r =
      matrix_is s laws empty old.shape (λ i j. written s how (allows s how.complement None i j) (at s old i j) (at s new i j)) is (ap (λ (m : Sparse). m.shape) e)
      (λ i j _ _.
      ap (λ (m : Sparse). at s m i j) e
      ∙ sym (ap (λ b. written s how b (at s old i j) (at s new i j)) (cond-true how.complement false true c)
      ∙ cond-true how.replace s.zero (at s old i j) r))

  pub all_left : how.complement ≡ true → how.replace ≡ false → old ≡ updated s how None old new
  all_left c r =
      matrix_is s laws old old.shape (λ i j. written s how (allows s how.complement None i j) (at s old i j) (at s new i j)) is_old refl
      (λ i j _ _.
      sym (ap (λ b. written s how b (at s old i j) (at s new i j)) (cond-true how.complement false true c)
      ∙ cond-false how.replace s.zero (at s old i j) r))

  pub all_new : how.complement ≡ false → how.accumulate ≡ false → new ≡ updated s how None old new
  all_new c p =
      matrix_is s laws new old.shape (λ i j. written s how (allows s how.complement None i j) (at s old i j) (at s new i j)) is_new same
      (λ i j _ _.
      sym (ap (λ b. written s how b (at s old i j) (at s new i j)) (cond-false how.complement false true c)
      ∙ cond-false how.accumulate (s.add (at s old i j) (at s new i j)) (at s new i j) p))

  -- under a mask
  module _ (m w : Sparse) (is_w : w ≡ allowed s how.complement m new) where
    abbrev is_open : ℕ → ℕ → Bool
    is_open i j = allows s how.complement (Some m) i j

    abbrev goal_at : ℕ → ℕ → ℕ
    goal_at i j = written s how (is_open i j) (at s old i j) (at s new i j)

    same_w : w ≡ matrix_of s old.shape (λ i j. cond (is_open i j) (at s new i j) s.zero)
    same_w = is_w ∙ ap (λ d. matrix_of s d (λ i j. cond (is_open i j) (at s new i j) s.zero)) same

    w_at : (i j : ℕ) → i < old.shape.rows → j < old.shape.cols → at s w i j ≡ cond (is_open i j) (at s new i j) s.zero
    w_at i j l k = ap (λ (x : Sparse). at s x i j) same_w ∙ at-matrix_of s old.shape (λ i j. cond (is_open i j) (at s new i j) s.zero) i j l k

    pub written_on_old : how.accumulate ≡ true → how.replace ≡ false → sum_of s old w ≡ updated s how (Some m) old new
    written_on_old p q =
        same_matrix_of s old.shape (λ i j. s.add (at s old i j) (at s w i j)) goal_at
        (λ i j l k.
        ap (s.add (at s old i j)) (w_at i j l k)
        ∙ on_old s laws how (at s old i j) (at s new i j) (old_value i j) (new_value i j) p q (is_open i j))

    left_at : (c : Bool) (i j : ℕ) → i < old.shape.rows → j < old.shape.cols → at s (allowed s c m old) i j ≡ cond (allows s c (Some m) i j) (at s old i j) s.zero
    left_at c i j l k = at-matrix_of s old.shape (λ i j. cond (allows s c (Some m) i j) (at s old i j) s.zero) i j l k

    pub written_on_allowed : how.accumulate ≡ true → how.replace ≡ true → sum_of s (allowed s how.complement m old) w ≡ updated s how (Some m) old new
    written_on_allowed p q =
        same_matrix_of s old.shape (λ i j. s.add (at s (allowed s how.complement m old) i j) (at s w i j)) goal_at
        (λ i j l k.
        ap (λ x. s.add x (at s w i j)) (left_at how.complement i j l k)
        ∙ ap (s.add (cond (is_open i j) (at s old i j) s.zero)) (w_at i j l k)
        ∙ on_allowed s laws how (at s old i j) (at s new i j) (old_value i j) (new_value i j) p q (is_open i j))

    pub written_beside_old : (c : Bool) → c ≡ not how.complement → how.accumulate ≡ false → how.replace ≡ false → sum_of s (allowed s c m old) w ≡ updated s how (Some m) old new
    written_beside_old c e p q =
        same_matrix_of s old.shape (λ i j. s.add (at s (allowed s c m old) i j) (at s w i j)) goal_at
        (λ i j l k.
        ap (λ x. s.add x (at s w i j)) (left_at c i j l k
        ∙ ap (λ t. cond t (at s old i j) s.zero) (ap (λ d. cond d (not (has_entry s m i j)) (has_entry s m i j)) e ∙ other_way how.complement (has_entry s m i j)))
        ∙ ap (s.add (cond (not (is_open i j)) (at s old i j) s.zero)) (w_at i j l k)
        ∙ beside_old s laws how (at s old i j) (at s new i j) (old_value i j) (new_value i j) p q (is_open i j))
