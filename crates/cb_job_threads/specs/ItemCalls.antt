-- Functions that are called with items of a list.
use Rattle.std.specs.Prelude.{ℕ, List, slice_index_or}
use Rattle.std.specs.Fork.{ChangesAt, ChangesEach}
use denote.Ref.{MutBor}
use denote.Param.Members.{Shared}

module _ {F T : Type 0} (g : Shared F (ℕ × (MutBor T × Unit {0})) ((Unit {0}) × (MutBor T × Unit {0}))) (f : F) where
  -- f may be called with any number and any item
  abbrev pub AcceptsAll : Type 0
  AcceptsAll = (i : ℕ) (p : MutBor T) → g.pre f (i, (p, tt))

  -- each item of ys is what a call of f left at that place of xs
  pub record ChangesItems (xs ys : List T) : Type 0 where
    pub each : ChangesEach g f xs ys

  -- the first item of ys is what a call of f with this number left of that of xs
  pub record ChangesFirst (number : ℕ) (xs ys : List T) : Type 0 where
    pub first : (d : T) → ChangesAt g f number (slice_index_or xs 0 d) (slice_index_or ys 0 d)
