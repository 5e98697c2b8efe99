-- What broadcasts along all rows, or all columns, do.
use Rattle.std.proofs.Common.{◌≡◌, ◌≢◌, ℕ, zero, suc, ◌+◌, ◌<◌, true, false, List, refl, ap, ◌∙◌, arith}
use Rattle.std.specs.Prelude.{◌==◌, ◌&&◌, if◌then◌else◌, nat_lt, nat_le, flat_map}
use Rattle.std.specs.List.{range_with_len}
use Rattle.std.proofs.lemmas.Bool.Decides.{nat_tests}
use Rattle.cb_letters.specs.declared.Tag.{Tag}
use Rattle.cb_plan.specs.Meaning.{Algebra, State, meaning}
use Rattle.cb_plan_parts.specs.Collectives.{is_member, spread, broadcast_acts}
use Rattle.cb_plan.proofs.Effects.{split, meaning-append}
use Rattle.cb_plan_parts.proofs.Spread.{broadcast_spreads}

-- a broadcast in each of the groups a to a+m-1
module _ {M : Type 0} (ops : Algebra M) (group : ℕ → List ℕ) (root : ℕ → ℕ) (tag : ℕ → Tag) (slot into : ℕ) where
  abbrev pub group_acts : ℕ → ℕ → State M → State M
  group_acts a m state = meaning ops (flat_map (λ g. broadcast_acts (group g) (root g) (tag g) slot into) (range_with_len a m)) state

  first_group : (a m : ℕ) (state : State M) → is_member (group a) (root a) ≡ true → group_acts a (suc m) state ≡ group_acts (a + 1) m (spread (group a) into (state (root a) slot) state)
  first_group a m state there =
      meaning-append ops (broadcast_acts (group a) (root a) (tag a) slot into) (flat_map (λ g. broadcast_acts (group g) (root g) (tag g) slot into) (range_with_len (a + 1) m)) state
      ∙ ap (group_acts (a + 1) m) (broadcast_spreads ops (group a) (root a) (tag a) slot into state there)

  -- other slots stay
  pub groups_stay : (a m : ℕ) (state : State M) → ((g : ℕ) → g < a + m → is_member (group g) (root g) ≡ true) → (r n : ℕ) → into ≢ n → group_acts a m state r n ≡ state r n
  groups_stay a zero state there r n ne = refl
  groups_stay a (suc m) state there r n ne =
      let f : (into == n) ≡ false = grind (arith, nat_tests) in
      ap (λ x. x r n) (first_group a m state (there a (omega arith)))
      ∙ groups_stay (a + 1) m (spread (group a) into (state (root a) slot) state) (λ g l. there g (omega arith)) r n ne
      ∙ split (is_member (group a) r) (λ t. rw (t, f) refl) (λ t. rw t refl)

  -- a rank that is in the group h alone gets what the root of h has
  pub groups_spread : (a m : ℕ) (state : State M) → slot ≢ into → ((g : ℕ) → g < a + m → is_member (group g) (root g) ≡ true) → (r h : ℕ) → ((g : ℕ) → g < a + m → is_member (group g) r ≡ (g == h)) →
      group_acts a m state r into ≡ (if nat_le a h && nat_lt h (a + m) then state (root h) slot else state r into)
  groups_spread a zero state ne there r h only = let f : (nat_le a h && nat_lt h (a + zero)) ≡ false = grind (arith, nat_tests) in rw f refl
  groups_spread a (suc m) state ne there r h only =
      let next = spread (group a) into (state (root a) slot) state in
      let here : is_member (group a) r ≡ (a == h) = only a (omega arith) in
      let same : (into == into) ≡ true = grind (arith, nat_tests) in
      let other : (into == slot) ≡ false = grind (arith, nat_tests) in
      let kept : next (root h) slot ≡ state (root h) slot = split (is_member (group a) (root h)) (λ t. rw (t, other) refl) (λ t. rw t refl) in
      let is : next r into ≡ (if a == h then state (root a) slot else state r into) = rw (here, same) (split (a == h) (λ t. rw t refl) (λ t. rw t refl)) in
      ap (λ x. x r into) (first_group a m state (there a (omega arith)))
      ∙ groups_spread (a + 1) m next ne (λ g l. there g (omega arith)) r h (λ g l. only g (omega arith))
      ∙ split (a == h)
      (λ t.
      let e : a ≡ h = grind (arith, nat_tests) in
      let f : (nat_le (a + 1) h && nat_lt h (a + 1 + m)) ≡ false = grind (arith, nat_tests) in
      let g : (nat_le a h && nat_lt h (a + suc m)) ≡ true = grind (arith, nat_tests) in
      rw (f, g) (is ∙ rw t (ap (λ k. state (root k) slot) e)))
      (λ t.
      let g : (nat_le a h && nat_lt h (a + suc m)) ≡ (nat_le (a + 1) h && nat_lt h (a + 1 + m)) = grind (arith, nat_tests) in
      rw g (split (nat_le (a + 1) h && nat_lt h (a + 1 + m))
      (λ u. rw u kept)
      (λ u. rw u (is ∙ rw t refl))))
