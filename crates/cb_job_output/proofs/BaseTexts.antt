-- The text of a matrix over a semiring and over its base, which differs in the product alone.
use Rattle.std.proofs.Common.{◌≡◌, ℕ, refl, sym, ap, ◌∙◌}
use Rattle.cb_semirings.specs.Arithmetic.{Arithmetic}
use Rattle.cb_bases.specs.Bases.{IsBaseOf}
use Rattle.cb_matrix.specs.Sparse.{Sparse}
use Rattle.cb_market_pages.specs.Text.{text_of}

text_over : (base : Arithmetic) (mul : ℕ → ℕ → ℕ) (m : Sparse) → text_of base m ≡ text_of (record base { mul = mul }) m
unfolding text_of
text_over base mul m = refl

module _ (s base : Arithmetic) (has : IsBaseOf s base) where
  -- it is the same text
  pub text_too : (m n : Sparse) → n ≡ m → text_of base n ≡ text_of s m
  text_too m n e = ap (text_of base) e ∙ text_over base s.mul m ∙ ap (λ t. text_of t m) (sym has)
