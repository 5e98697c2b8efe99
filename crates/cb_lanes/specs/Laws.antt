-- The laws of ports, for desks: how lanes stand after a desk's calls.
use Rattle.std.proofs.Common.{ℕ, ◌≡◌, ◌<◌, ◌≤◌, [], ◌∷◌, ◌++◌, length, refl, sym, ◌∙◌, ap, subst, arith, length-append, ⊎_elim}
use Rattle.std.specs.Prelude.{None}
use Rattle.std.proofs.lemmas.Bool.{cases_order}
use Rattle.std.proofs.lemmas.List.{length-map}
use Rattle.cb_letters.specs.declared.Letter.{Letter}
use Rattle.cb_letters.specs.declared.Taken.{Taken}
use Rattle.cb_letters.specs.declared.Taken.TheVariants as Answers
use Rattle.cb_letters.specs.Posted.{ends_closed}
use Rattle.cb_letters.specs.Standing.{standing_refusal, stands_after, KeepsLane, CountsOn}
use Rattle.cb_letters.proofs.Standings.{same_standing}
use Rattle.cb_letters.proofs.Marks.{ends_closed-append}
use Rattle.cb_lanes.specs.declared.desk.Desk.{Desk}
use Rattle.cb_rings.specs.Ends.{outgoing_ring}
use Rattle.cb_lanes.specs.Desks.{identity, posted_to, taken_from, room_to, capacity_to, is_stranger, standing, has_room, Keeps, Posts, Takes}

module _ {P : Type 0} where
  -- a desk keeps its rank
  same_me : (p q : Desk P) → identity q ≡ identity p → q.me ≡ p.me
  same_me p q e = ap (λ i. i.me) e

  -- and its number of ranks
  same_count : (p q : Desk P) → identity q ≡ identity p → length q.outgoing.items ≡ length p.outgoing.items
  same_count p q e = sym (length-map q.outgoing.items outgoing_ring) ∙ ap (λ i. length i.outgoing) e ∙ length-map p.outgoing.items outgoing_ring

  -- so it has the same strangers
  same_stranger : (p q : Desk P) (k : ℕ) → identity q ≡ identity p → is_stranger q k ≡ is_stranger p k
  same_stranger p q k e = let me = same_me p q e in let count = same_count p q e in rw (me, count) refl

  -- a lane on which the same was posted stands the same
  stands : (p q : Desk P) (k : ℕ) → identity q ≡ identity p → posted_to q k ≡ posted_to p k → standing q k ≡ standing p k
  stands p q k e f = same_standing (standing q k) (standing p k) (same_me p q e) (same_stranger p q k e) (ap ends_closed f) (ap length f)

  -- a lane whose letters and room are kept is kept
  at_lane : (p q : Desk P) → identity q ≡ identity p → (k : ℕ)
      → (posted_to q k ≡ posted_to p k) × (room_to p k ≤ room_to q k) × (capacity_to q k ≡ capacity_to p k)
      → KeepsLane standing has_room p q k
  at_lane p q e k h = (stands p q k e h.0, λ room. let more = h.1 in omega arith)

  -- if nothing happened, every lane is kept
  pub kept : (p q : Desk P) → Keeps p q → (k : ℕ) → KeepsLane standing has_room p q k
  kept p q h k = at_lane p q h.0 k (h.1 k)

  -- a posted letter counts on its own lane alone
  pub posted : (p q : Desk P) (to : ℕ) (x : Letter P) → Posts p to x q → standing_refusal (standing p to) ≡ None
      → CountsOn standing has_room p q to x
  posted p q to x h none =
      let size = length-append (posted_to p to) (x ∷ []) in (
        same_standing (standing q to) (stands_after x (standing p to)) (same_me p q h.0) (same_stranger p q to h.0)
            (ap ends_closed h.1.0 ∙ ends_closed-append (posted_to p to) x)
            (ap length h.1.0 ∙ size),
        λ k n. at_lane p q h.0 k (h.1.2 k n),
      )

  -- a take changes no lane on which this rank posts
  pub taken : (p q : Desk P) (from : ℕ) (r : Taken P) → Takes p from r q → (k : ℕ) → KeepsLane standing has_room p q k
  taken p q from r h k = at_lane p q h.0 k (h.1 k)

  -- a take that returns `Empty` changes nothing
  pub empty : (p q : Desk P) (from : ℕ) → Takes p from Answers.Empty q → Keeps p q
  empty p q from h = (h.0, h.1, same)
    where
      same : (k : ℕ) → taken_from q k ≡ taken_from p k
      same k =
          ⊎_elim
          (λ (e : k ≡ from). subst (λ m. taken_from q m ≡ taken_from p m) (sym e) h.2.0)
          (λ w. h.2.1 k (λ e. ⊎_elim (λ (o : k < from). absurd (omega arith)) (λ (o : from < k). absurd (omega arith)) w))
          (cases_order k from)

  -- a post may be seen from any earlier state that kept everything
  pub kept_posts : (p q r : Desk P) (to : ℕ) (x : Letter P) → Keeps p q → Posts q to x r → Posts p to x r
  kept_posts p q r to x h g =
      let here = h.1 to in (
        g.0 ∙ h.0,
        (
          g.1.0 ∙ ap (λ xs. xs ++ x ∷ []) here.0,
          g.1.1 ∙ here.2,
          λ k n. let old = h.1 k in let new = g.1.2 k n in (new.0 ∙ old.0, (let a = old.1 in let b = new.1 in omega arith), new.2 ∙ old.2),
        ),
        λ k. g.2 k ∙ h.2 k,
      )
