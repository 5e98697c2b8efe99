-- The faults of triples.
use Rattle.std.proofs.Common.{ℕ, ◌≤◌, List, refl, inl, inr}
use Rattle.cb_semirings.specs.Arithmetic.{Arithmetic}
use Rattle.cb_matrix.specs.declared.TheConstants.{LIMIT}
use Rattle.cb_matrix.specs.Sparse.{Extent}
use Rattle.cb_kept.specs.declared.faults.Fault.TheVariants.{TooLarge, Place, Value}
use Rattle.cb_kept.specs.declared.triples.Triple.{Triple}
use Rattle.cb_kept.specs.Triples.{AreWithin, AreTripleValues, triple_faults}
use Rattle.cb_kept.specs.Answers.{NoFault}
use Rattle.cb_kept.proofs.Firsts.{passed, no_more}

module _ (s : Arithmetic) (nrows ncols : ℕ) (ts : List Triple) where
  abbrev extent : Extent
  extent = record { rows = nrows; cols = ncols }

  pub too_large_first : ((nrows ≤ LIMIT) × (ncols ≤ LIMIT) → ⊥) → triple_faults s nrows ncols ts TooLarge
  unfolding triple_faults
  too_large_first n = inl (refl, n)

  pub place_next : (nrows ≤ LIMIT) × (ncols ≤ LIMIT) → (AreWithin extent ts → ⊥) → triple_faults s nrows ncols ts Place
  unfolding triple_faults
  place_next p n = inr (p, inl (refl, n))

  pub value_next : (nrows ≤ LIMIT) × (ncols ≤ LIMIT) → AreWithin extent ts → (AreTripleValues s ts → ⊥) → triple_faults s nrows ncols ts Value
  unfolding triple_faults
  value_next p q n = inr (p, inr (q, inl (refl, n)))

  pub none_of_triples : (nrows ≤ LIMIT) × (ncols ≤ LIMIT) → AreWithin extent ts → AreTripleValues s ts → NoFault (triple_faults s nrows ncols ts)
  unfolding triple_faults
  none_of_triples p q r = passed _ TooLarge _ p (passed _ Place _ q (passed _ Value _ r no_more))
