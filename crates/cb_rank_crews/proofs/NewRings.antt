-- The rings of a new crew.
use Rattle.std.proofs.Common.{◌≡◌, ℕ, suc, ◌+◌, List, [], ◌∷◌, ◌++◌, Some, Option, sym, ap, ◌∙◌, subst, arith}
use Rattle.std.specs.Prelude.{slice_get}
use Rattle.std.specs.declared.alloc.Global.{Global}
use Rattle.rtrb.specs.declared.producer.Producer.{Producer}
use Rattle.rtrb.specs.declared.consumer.Consumer.{Consumer}
use Rattle.cb_rank_crews.specs.Rings.{RingName, put_ring, names_of, IsNewRing, AreNewRings}

module _ {T P : Type 0} where
  -- one ring more
  pub one_ring_more : (xs : List (Producer T Global P × Consumer T Global P)) (x : Producer T Global P × Consumer T Global P) → AreNewRings xs → IsNewRing x → AreNewRings (xs ++ x ∷ [])
  one_ring_more [] x h new = (new, tt)
  one_ring_more (y ∷ ys) x h new = (h.0, one_ring_more ys x h.1 new)

  -- the first of those that are left
  pub first_ring : (ring : ℕ → Option RingName) (n : ℕ) (rest rest' : List (Producer T Global P × Consumer T Global P)) (x : Producer T Global P × Consumer T Global P) → rest ≡ x ∷ rest' → ((k : ℕ) → ring (n + k) ≡ slice_get (names_of rest) k) → ring n ≡ Some (put_ring x.0)
  first_ring ring n rest rest' x e names =
      let at : n + 0 ≡ n = omega arith in
      sym (ap ring at) ∙ names 0 ∙ ap (λ xs. slice_get (names_of xs) 0) e

  -- and the others
  pub other_rings : (ring : ℕ → Option RingName) (n m : ℕ) (rest rest' : List (Producer T Global P × Consumer T Global P)) (x : Producer T Global P × Consumer T Global P) → rest ≡ x ∷ rest' → m ≡ n + 1 → ((k : ℕ) → ring (n + k) ≡ slice_get (names_of rest) k) → (k : ℕ) → ring (m + k) ≡ slice_get (names_of rest') k
  other_rings ring n m rest rest' x e more names k =
      let at : m + k ≡ n + suc k = omega arith in
      ap ring at ∙ names (suc k) ∙ ap (λ xs. slice_get (names_of xs) (suc k)) e

  -- both ends of the first of them are there
  pub first_new : (rest rest' : List (Producer T Global P × Consumer T Global P)) (x : Producer T Global P × Consumer T Global P) → rest ≡ x ∷ rest' → AreNewRings rest → IsNewRing x × AreNewRings rest'
  first_new rest rest' x e h = subst AreNewRings e h
