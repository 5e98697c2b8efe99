-- What a rank does when all lanes are shut.
use Rattle.std.proofs.Common.{◌≡◌, ◌≢◌, ℕ, zero, suc, ◌+◌, ◌<◌, true, false, List, [], ◌∷◌, ◌++◌, refl, sym, ap, ◌∙◌, append_assoc, arith}
use Rattle.std.specs.Prelude.{◌==◌, ◌&&◌, if◌then◌else◌, nat_lt, nat_le, flat_map}
use Rattle.std.specs.List.{range_with_len}
use Rattle.std.proofs.lemmas.Bool.Decides.{nat_tests}
use Rattle.cb_matrix.specs.Sparse.{Extent}
use Rattle.cb_plan.specs.declared.acts.Act.{Act}
use Rattle.cb_plan.specs.declared.acts.Half.TheVariants as half_is
use Rattle.cb_plan.specs.Meaning.{State, act, meaning}
use Rattle.cb_plan.specs.Algebras.{shapes}
use Rattle.cb_plan.specs.Closings.{shut_lane, shut_from, shut_acts}
use Rattle.cb_plan.specs.Programs.{halves_of, project_from, own_shut, closing_halves}
use Rattle.cb_plan.proofs.Effects.{split}
use Rattle.cb_plan.proofs.ShutMeaning.{sender_is_nothing}

module _ (r : ℕ) where
  -- the halves of two lists of acts
  projected-append : (state : State Extent) (xs ys : List Act) → project_from state (xs ++ ys) r ≡ project_from state xs r ++ project_from (meaning shapes xs state) ys r
  projected-append state [] ys = refl
  projected-append state (x ∷ xs) ys =
      ap (λ hs. halves_of state x r ++ hs) (projected-append (act shapes x state) xs ys)
      ∙ sym (append_assoc (halves_of state x r) (project_from (act shapes x state) xs r) (project_from (meaning shapes xs (act shapes x state)) ys r))

  module _ (state : State Extent) where
    -- of the lanes from the rank itself it shuts each
    own_projected : (a n : ℕ) → project_from state (flat_map (shut_lane r) (range_with_len a n)) r ≡ flat_map (own_shut r) (range_with_len a n)
    own_projected a zero = refl
    own_projected a (suc n) =
        let h = own_projected (a + 1) n in
        split (r == a)
        (λ t. rw t h)
        (λ t. let own : (r == r) ≡ true = grind (arith, nat_tests) in rw t (rw own (ap (λ hs. half_is.Shut a ∷ hs) h)))

    -- of the lanes from another rank it has the one to itself
    others_projected : (from a n : ℕ) → from ≢ r → project_from state (flat_map (shut_lane from) (range_with_len a n)) r ≡ (if nat_le a r && nat_lt r (a + n) then half_is.End from ∷ [] else [])
    others_projected from a zero ne = let e : (nat_le a r && nat_lt r (a + zero)) ≡ false = grind (arith, nat_tests) in rw e refl
    others_projected from a (suc n) ne =
        let h = others_projected from (a + 1) n ne in
        let apart : (from == r) ≡ false = grind (arith, nat_tests) in
        split (from == a)
        (λ t.
        let g : (nat_le a r && nat_lt r (a + suc n)) ≡ (nat_le (a + 1) r && nat_lt r (a + 1 + n)) = grind (arith, nat_tests) in
        rw (t, g) h)
        (λ t. split (a == r)
        (λ u.
        let o : (nat_le (a + 1) r && nat_lt r (a + 1 + n)) ≡ false = grind (arith, nat_tests) in
        let p : (nat_le a r && nat_lt r (a + suc n)) ≡ true = grind (arith, nat_tests) in
        rw t (rw apart (rw (u, p) (ap (λ hs. half_is.End from ∷ hs) (h ∙ rw o refl)))))
        (λ u.
        let g : (nat_le a r && nat_lt r (a + suc n)) ≡ (nat_le (a + 1) r && nat_lt r (a + 1 + n)) = grind (arith, nat_tests) in
        rw t (rw apart (rw (u, g) h))))

    sender_projected : (ranks from : ℕ) → r < ranks → project_from state (shut_from ranks from) r ≡ closing_halves ranks r from
    sender_projected ranks from l =
        split (from == r)
        (λ t. let e : from ≡ r = grind (arith, nat_tests) in rw t (ap (λ k. project_from state (shut_from ranks k) r) e ∙ own_projected 0 ranks))
        (λ t.
        let ne : from ≢ r = grind (arith, nat_tests) in
        let p : (nat_le 0 r && nat_lt r (0 + ranks)) ≡ true = grind (arith, nat_tests) in
        rw t (others_projected from 0 ranks ne ∙ rw p refl))

    senders_projected : (ranks a n : ℕ) → r < ranks → project_from state (flat_map (shut_from ranks) (range_with_len a n)) r ≡ flat_map (closing_halves ranks r) (range_with_len a n)
    senders_projected ranks a zero l = refl
    senders_projected ranks a (suc n) l =
        let rest : List Act = flat_map (shut_from ranks) (range_with_len (a + 1) n) in
        projected-append state (shut_from ranks a) rest
        ∙ ap (λ s. project_from state (shut_from ranks a) r ++ project_from s rest r) (sender_is_nothing shapes ranks state a)
        ∙ ap (λ hs. hs ++ project_from state rest r) (sender_projected ranks a l)
        ∙ ap (λ hs. closing_halves ranks r a ++ hs) (senders_projected ranks (a + 1) n l)

    -- when all lanes are shut, it does its part sender by sender
    pub closing_projected : (ranks : ℕ) → r < ranks → project_from state (shut_acts ranks) r ≡ flat_map (closing_halves ranks r) (range_with_len 0 ranks)
    closing_projected ranks l = senders_projected ranks 0 ranks l
