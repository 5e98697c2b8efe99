-- Powers of a square matrix, one product after another.
use Rattle.std.proofs.Common.{◌≡◌, ℕ, zero, suc, ◌+◌, ◌-◌, ◌≤◌, sym, refl, ap, subst, arith}
use Rattle.cb_semirings.specs.Arithmetic.{Arithmetic}
use Rattle.cb_matrix.specs.Sparse.{Sparse}
use Rattle.cb_matrix.specs.Values.{product}
use Rattle.cb_operations.specs.SelectionAnswers.{times_itself, power}

module _ (s : Arithmetic) (a : Sparse) where
  -- a power has as many columns as the matrix
  pub power_columns : (n : ℕ) → (times_itself s a n).shape.cols ≡ a.shape.cols
  unfolding times_itself
  power_columns zero = refl
  power_columns (suc n) = refl

  -- one factor, and two
  pub one_factor : (n : ℕ) → n ≡ 1 → a ≡ power s a n
  unfolding times_itself
  one_factor n e = subst (λ n. a ≡ power s a n) (sym e) refl

  pub two_factors : product s a a ≡ power s a 2
  unfolding times_itself
  two_factors = refl

  -- one more factor
  pub next_factor : (n : ℕ) → 1 ≤ n → product s (power s a n) a ≡ power s a (n + 1)
  unfolding times_itself
  next_factor n l = let e : n + 1 - 1 ≡ suc (n - 1) = omega arith in sym (ap (times_itself s a) e)
