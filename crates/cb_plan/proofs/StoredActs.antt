-- The acts that a plan stores, and those after them.
use Rattle.std.proofs.Common.{◌≡◌, ℕ, ◌<◌, ◌≤◌, List, ◌++◌, length, length-append, get_or, drop, sym, ap, ◌∙◌, arith}
use Rattle.std.proofs.lemmas.List.{get_or_append_left}
use Rattle.std.proofs.Math.Seq.{drop-append_seam}

module _ {X : Type 0} (xs ys : List X) (i : ℕ) where
  -- an element of the first list is one of both
  pub is_inside : i < length xs → i < length (xs ++ ys)
  is_inside l = let e = length-append xs ys in omega arith

  pub same_element : (x : X) → i < length xs → x ≡ get_or xs i x → x ≡ get_or (xs ++ ys) i x
  same_element x l e = e ∙ sym (get_or_append_left xs ys x i l)

  -- past the first list the second is left
  pub second_left : length xs ≤ i → i ≤ length xs → drop i (xs ++ ys) ≡ ys
  second_left l m = let e : i ≡ length xs = omega arith in ap (λ n. drop n (xs ++ ys)) e ∙ drop-append_seam xs ys
