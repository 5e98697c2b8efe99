-- The sum that reduce makes: at each place, the sum of the members' values there.
use Rattle.std.proofs.Common.{◌≡◌, ℕ, ◌<◌, true, false, List, [], ◌∷◌, map, refl, sym, ap, ◌∙◌, arith}
use Rattle.std.specs.Prelude.{Some, ◌==◌}
use Rattle.std.proofs.lemmas.Bool.Decides.{nat_tests}
use Rattle.cb_semirings.specs.Arithmetic.{Arithmetic, IsValue, IsSemiring}
use Rattle.cb_matrix.specs.Sparse.{Sparse, at}
use Rattle.cb_matrix.specs.Values.{total}
use Rattle.cb_matrix.specs.Operations.{sum_of}
use Rattle.cb_matrix.proofs.Made.{at-matrix_of}
use Rattle.cb_matrix.proofs.Totals.{add_zero, value_at-value}
use Rattle.cb_plan.specs.Meaning.{State, two}
use Rattle.cb_plan.specs.Algebras.{matrices}
use Rattle.cb_plan.proofs.Effects.{split}
use Rattle.cb_plan_parts.specs.Collectives.{is_member, AreDistinct, others, sum_with, sum_of_members, HasBlocks, AddsUp}
use Rattle.cb_plan_parts.proofs.MemberPlaces.{not_member, distinct_tail}

-- the first is a member, and so are those of the rest
first_member : (m : ℕ) (ms : List ℕ) → is_member (m ∷ ms) m ≡ true
first_member m ms = let own : (m == m) ≡ true = grind (arith, nat_tests) in rw own refl

later_member : (m : ℕ) (ms : List ℕ) (r : ℕ) → is_member ms r ≡ true → is_member (m ∷ ms) r ≡ true
later_member m ms r h = split (m == r) (λ t. rw t refl) (λ t. rw t h)

other_member : (ms : List ℕ) (root r : ℕ) → is_member (others ms root) r ≡ true → is_member ms r ≡ true
other_member [] root r h = h
other_member (m ∷ ms) root r h =
    split (m == root)
    (λ t. later_member m ms r (other_member ms root r (rw t at h)))
    (λ t. split (m == r) (λ u. rw u refl) (λ u. let k : is_member (others ms root) r ≡ true = rw (t, u) at h in rw u (other_member ms root r k)))

-- if the root isn't among them, all are others
none_left : (ms : List ℕ) (root : ℕ) → is_member ms root ≡ false → others ms root ≡ ms
none_left [] root h = refl
none_left (m ∷ ms) root h =
    split (m == root)
    (λ t. let e : true ≡ false = rw t at h in absurd (cc e))
    (λ t. let k : is_member ms root ≡ false = rw t at h in rw t (ap (λ xs. m ∷ xs) (none_left ms root k)))

module _ (s : Arithmetic) (laws : IsSemiring s) where
  sum_value : (f : ℕ → ℕ) (ms : List ℕ) → ((m : ℕ) → is_member ms m ≡ true → IsValue s (f m)) → IsValue s (total s (map f ms))
  unfolding total
  sum_value f [] h = laws.zero_value
  sum_value f (m ∷ ms) h = laws.add_value (f m) (total s (map f ms)) (h m (first_member m ms)) (sum_value f ms (λ r k. h r (later_member m ms r k)))

  -- the sum over the members has the root's value first
  root_first : (f : ℕ → ℕ) (ms : List ℕ) (root : ℕ) → AreDistinct ms → is_member ms root ≡ true → ((m : ℕ) → is_member ms m ≡ true → IsValue s (f m)) →
      total s (map f ms) ≡ s.add (f root) (total s (map f (others ms root)))
  unfolding total
  root_first f [] root distinct there h = let e : false ≡ true = there in absurd (cc e)
  root_first f (m ∷ ms) root distinct there h =
      split (m == root)
      (λ t.
      let e : m ≡ root = grind (arith, nat_tests) in
      let none : is_member ms root ≡ false = ap (is_member ms) (sym e) ∙ not_member m ms distinct in
      rw t (ap (λ x. s.add x (total s (map f ms))) (ap f e) ∙ ap (λ xs. s.add (f root) (total s (map f xs))) (sym (none_left ms root none))))
      (λ t.
      let there' : is_member ms root ≡ true = rw t at there in
      let h' = λ (r : ℕ) (k : is_member ms r ≡ true). h r (later_member m ms r k) in
      let rest = total s (map f (others ms root)) in
      let v = h m (first_member m ms) in
      let w = h' root there' in
      let z = sum_value f (others ms root) (λ r k. h' r (other_member ms root r k)) in
      rw t (ap (s.add (f m)) (root_first f ms root (distinct_tail m ms distinct) there' h')
      ∙ sym (laws.add_assoc (f m) (f root) rest v w z) ∙ ap (λ x. s.add x rest) (laws.add_comm (f m) (f root) v w) ∙ laws.add_assoc (f root) (f m) rest w v z))

  -- blocks that are added in turn
  added_in_turn : (state : State Sparse) (slot : ℕ) (block : ℕ → Sparse) (ms : List ℕ) (a : Sparse) →
      ((m : ℕ) → is_member ms m ≡ true → (state m slot ≡ Some (block m)) × ((i j : ℕ) → IsValue s (at s (block m) i j))) →
      ((i j : ℕ) → i < a.shape.rows → j < a.shape.cols → IsValue s (at s a i j)) →
      (sum : Sparse) × (sum_with (matrices s) state slot (Some a) ms ≡ Some sum) × (sum.shape ≡ a.shape)
      × ((i j : ℕ) → i < a.shape.rows → j < a.shape.cols → at s sum i j ≡ s.add (at s a i j) (total s (map (λ m. at s (block m) i j) ms)))
  unfolding total
  added_in_turn state slot block [] a stored values =
      (a, refl, refl, λ i j l k. sym (add_zero s laws (at s a i j) (values i j l k)))
  added_in_turn state slot block (m ∷ ms) a stored values =
      let here = stored m (first_member m ms) in
      let next : Sparse = sum_of s a (block m) in
      let later = λ (q : ℕ) (h : is_member ms q ≡ true). stored q (later_member m ms q h) in
      let at_next : (i j : ℕ) → i < a.shape.rows → j < a.shape.cols → at s next i j ≡ s.add (at s a i j) (at s (block m) i j) =
      λ i j l k. at-matrix_of s a.shape (λ i j. s.add (at s a i j) (at s (block m) i j)) i j l k in
      let rest = added_in_turn state slot block ms next later (λ i j l k. rw (at_next i j l k) (laws.add_value (at s a i j) (at s (block m) i j) (values i j l k) (here.1 i j))) in (
        rest.0,
        ap (λ x. sum_with (matrices s) state slot (two (sum_of s) (Some a) x) ms) here.0 ∙ rest.1,
        rest.2,
        λ i j l k. rest.3 i j l k ∙ ap (λ x. s.add x (total s (map (λ m. at s (block m) i j) ms))) (at_next i j l k)
            ∙ laws.add_assoc (at s a i j) (at s (block m) i j) (total s (map (λ m. at s (block m) i j) ms)) (values i j l k) (here.1 i j) (sum_value (λ m. at s (block m) i j) ms (λ r h. (later r h).1 i j)),
      )

  -- the sum of the members has at each place the sum of their values
  pub members_add_up : (members : List ℕ) (root slot : ℕ) (state : State Sparse) (block : ℕ → Sparse) → AreDistinct members → is_member members root ≡ true → HasBlocks s members slot block state →
      AddsUp s members root block (sum_of_members (matrices s) members root slot state)
  members_add_up members root slot state block distinct there has =
      let value : (m : ℕ) → is_member members m ≡ true → (i j : ℕ) → IsValue s (at s (block m) i j) = λ m h i j. value_at-value s laws (block m).entries i j (has m h).1.values in
      let made = added_in_turn state slot block (others members root) (block root)
      (λ m h. let k = other_member members root m h in ((has m k).0, value m k))
      (λ i j l k. value root there i j) in (
        made.0,
        ap (λ x. sum_with (matrices s) state slot x (others members root)) (has root there).0 ∙ made.1,
        made.2,
        λ i j l k. made.3 i j l k ∙ sym (root_first (λ m. at s (block m) i j) members root distinct there (λ m h. value m h i j)),
      )
