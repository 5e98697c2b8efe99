-- A lane of a world, compared with what its two ranks posted and took when each ran by itself.
use Rattle.std.proofs.Common.{◌≡◌, ℕ, ◌+◌, ◌<◌, List, [], ◌∷◌, ◌++◌, length, refl, sym, ◌∙◌, ap, arith, append_assoc, length-append}
use Rattle.std.specs.Prelude.{min}
use Rattle.std.proofs.lemmas.List.{append_cancel_left}
use Rattle.cb_matrix.specs.Sparse.{Sparse}
use Rattle.cb_letters.specs.declared.Letter.{Letter}
use Rattle.cb_letters.specs.Lane.{Lane, posted, append, after_take}
use Rattle.cb_rank_runs.proofs.Courses.{Extends}

-- As many letters were taken as the addressee took by itself. These, followed by those that are queued, are those that the
-- sender posted.
pub record LaneStandsAt (sent received : List (Letter Sparse)) (l : Lane Sparse) : Type 0 where
  pub counted : l.taken ≡ length received
  pub queued : received ++ l.queue ≡ sent

-- nothing is posted or taken
pub lane_stays : {sent sent' received received' : List (Letter Sparse)} {l l' : Lane Sparse} → sent' ≡ sent → received' ≡ received → l' ≡ l → LaneStandsAt sent received l → LaneStandsAt sent' received' l'
lane_stays p t e h = rw (p, t, e) h

-- one more letter is posted
pub lane_posts : {sent sent' received received' : List (Letter Sparse)} {l l' : Lane Sparse} (x : Letter Sparse) → sent' ≡ sent ++ x ∷ [] → received' ≡ received → l' ≡ append l x → LaneStandsAt sent received l → LaneStandsAt sent' received' l'
lane_posts {received = received} {l = l} x p t e h =
    rw (p, t, e) (record {
      counted = h.counted;
      queued = sym (append_assoc received l.queue (x ∷ [])) ∙ ap (λ xs. xs ++ x ∷ []) h.queued;
    })

one_taken : (n : ℕ) → 0 < n → min 1 n ≡ 1
one_taken n h = omega arith

-- the oldest letter is taken
pub lane_takes : {sent sent' received received' : List (Letter Sparse)} {l l' : Lane Sparse} (x : Letter Sparse) (rest : List (Letter Sparse)) → l.queue ≡ x ∷ rest → sent' ≡ sent → received' ≡ received ++ x ∷ [] → l' ≡ after_take l → LaneStandsAt sent received l → LaneStandsAt sent' received' l'
lane_takes {received = received} {l = l} x rest q p t e h =
    let some : 0 < length l.queue = rw q (omega arith) in
    let gone : l.queue ≡ x ∷ (after_take l).queue = rw q refl in
    rw (p, t, e) (record {
      counted = ap (λ n. l.taken + n) (one_taken (length l.queue) some) ∙ ap (λ n. n + 1) h.counted ∙ sym (length-append received (x ∷ []));
      queued = append_assoc received (x ∷ []) (after_take l).queue ∙ ap (λ xs. received ++ xs) (sym gone) ∙ h.queued;
    })

-- on the lane as many letters were posted as the sender posted
pub lane_counts : (sent received : List (Letter Sparse)) (l : Lane Sparse) → LaneStandsAt sent received l → posted l ≡ length sent
lane_counts sent received l h =
    let a = h.counted in
    let b = length-append received l.queue in
    let c = ap length h.queued in
    omega arith

-- the oldest letter is the one that the addressee took next, if all that it took was posted
pub same_letter : (sent received last : List (Letter Sparse)) (l : Lane Sparse) (x y : Letter Sparse) (rest : List (Letter Sparse)) → l.queue ≡ y ∷ rest → LaneStandsAt sent received l → Extends sent last → Extends (received ++ x ∷ []) last → y ≡ x
same_letter sent received last l x y rest q h more next =
    let so_far : sent ≡ received ++ (y ∷ rest) = sym h.queued ∙ ap (λ xs. received ++ xs) q in
    let whole : last ≡ received ++ (y ∷ (rest ++ more.0)) = more.1 ∙ ap (λ xs. xs ++ more.0) so_far ∙ append_assoc received (y ∷ rest) more.0 in
    let other : last ≡ received ++ (x ∷ next.0) = next.1 ∙ append_assoc received (x ∷ []) next.0 in
    let tails = append_cancel_left received (y ∷ (rest ++ more.0)) (x ∷ next.0) (sym whole ∙ other) in
    cc
