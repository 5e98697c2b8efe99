-- Close marks among the letters that were posted.
use Rattle.std.proofs.Common.{◌≡◌, false, List, [], ◌∷◌, ◌++◌, refl, arith}
use Rattle.std.proofs.lemmas.List.{take-append-le}
use Rattle.std.proofs.Math.Seq.{take-append_seam}
use Rattle.std.proofs.lemmas.Grind.{common_steps}
use Rattle.cb_letters.specs.declared.Letter.{Letter}
use Rattle.cb_letters.specs.Letters.{is_close}
use Rattle.cb_letters.specs.Posted.{ends_closed, NothingAfterClose}

module _ {P : Type 0} where
  -- the letter posted last tells whether the lane is closed
  pub ends_closed-append : (xs : List (Letter P)) (x : Letter P) → ends_closed (xs ++ x ∷ []) ≡ is_close x.body
  ends_closed-append [] x = refl
  ends_closed-append (y ∷ []) x = refl
  ends_closed-append (y ∷ (z ∷ zs)) x = ends_closed-append (z ∷ zs) x

  -- an open lane accepts one more letter
  pub NothingAfterClose-append : (xs : List (Letter P)) (x : Letter P) → NothingAfterClose xs → ends_closed xs ≡ false → NothingAfterClose (xs ++ x ∷ [])
  NothingAfterClose-append xs x h unclosed k below = grind (arith, common_steps, take-append-le, take-append_seam, h k, unclosed)

-- close marks as letters are posted
pub ruleset marks = (ends_closed-append, NothingAfterClose-append)
