-- One half of one rank, as a running system sees it.
use Rattle.std.specs.Prelude.{◌≡◌, ◌≢◌, ℕ, ◌+◌, ◌≤◌, List, ◌∷◌}
use Rattle.cb_semirings.specs.Arithmetic.{Arithmetic}
use Rattle.cb_matrix.specs.Sparse.{Sparse}
use Rattle.cb_letters.specs.declared.Letter.{Letter}
use Rattle.cb_letters.specs.declared.Body.TheVariants as body_is
use Rattle.cb_letters.specs.Letters.{mark_tag}
use Rattle.cb_letters.specs.Lane.{IsAddressed, posted, append}
use Rattle.cb_plan.specs.declared.acts.Half.{Half}
use Rattle.cb_plan.specs.declared.acts.Half.TheVariants as half_is
use Rattle.cb_plan.specs.declared.stores.Slot.{Slot}
use Rattle.cb_plan.specs.Meaning.{target_of}
use Rattle.cb_rank.specs.Agreement.{System}
use Rattle.cb_rank.specs.Halves.{slot_at, IsCopy, IsWork, slot_of_body}

pub record SlotsStay (r : ℕ) (now after : System Sparse) : Type 0 where
  pub stay : (n : ℕ) → after.slots r n ≡ now.slots r n

-- one slot of a rank is set, and its other slots stay
pub record OneSlot (r n : ℕ) (x : Slot Sparse) (now after : System Sparse) : Type 0 where
  pub set : after.slots r n ≡ x
  pub stay : (k : ℕ) → n ≢ k → after.slots r k ≡ now.slots r k

-- the lanes other than the one from this rank to that one stay
pub record OtherLanesStay (from to : ℕ) (now after : System Sparse) : Type 0 where
  pub by_sender : (p q : ℕ) → p ≢ from → after.lane p q ≡ now.lane p q
  pub by_addressee : (p q : ℕ) → q ≢ to → after.lane p q ≡ now.lane p q

-- one more letter on a lane
pub record Posts (from to : ℕ) (x : Letter Sparse) (now after : System Sparse) : Type 0 where
  pub addressed : IsAddressed from to (posted (now.lane from to)) x
  pub lane : after.lane from to ≡ append (now.lane from to) x
  pub others : OtherLanesStay from to now after

-- one letter fewer on a lane
pub record Takes (from to : ℕ) (x : Letter Sparse) (now after : System Sparse) : Type 0 where
  pub queue : (now.lane from to).queue ≡ x ∷ (after.lane from to).queue
  pub taken : (after.lane from to).taken ≡ (now.lane from to).taken + 1
  pub closed : (after.lane from to).closed ≡ (now.lane from to).closed
  pub others : OtherLanesStay from to now after

-- what this half of rank r does to a system: the letter that it posts or takes, and the slot that it sets
abbrev pub Did : Arithmetic → ℕ → Half → System Sparse → System Sparse → Type 0
Did s r (half_is.Post to tag slot) now after =
    (x : Letter Sparse) × (x.tag ≡ tag) × IsCopy r (now.slots r slot) x.body (now.refusals r) (after.refusals r) × Posts r to x now after × SlotsStay r now after
Did s r (half_is.Take from tag into shape) now after =
    (x : Letter Sparse) × Takes from r x now after × OneSlot r into (slot_of_body x.body) now after
Did s r (half_is.Work op) now after =
    (store : List (Slot Sparse)) × ((n : ℕ) → now.slots r n ≡ slot_at store n) × ((x : Slot Sparse) × IsWork s r op store x (now.refusals r) (after.refusals r) × OneSlot r (target_of op) x now after × ((p q : ℕ) → after.lane p q ≡ now.lane p q))
Did s r (half_is.Shut to) now after =
    (x : Letter Sparse) × (x.tag ≡ mark_tag) × (x.body ≡ body_is.Close) × Posts r to x now after × SlotsStay r now after
Did s r (half_is.End from) now after =
    (x : Letter Sparse) × Takes from r x now after × SlotsStay r now after

-- a rank does a half, and no other rank does anything
pub record Moves (s : Arithmetic) (r : ℕ) (h : Half) (now after : System Sparse) : Type 0 where
  pub done : after.done r ≡ now.done r + 1
  pub others_done : (q : ℕ) → q ≢ r → after.done q ≡ now.done q
  pub others_slots : (q n : ℕ) → q ≢ r → after.slots q n ≡ now.slots q n
  pub refusals : (q : ℕ) → now.refusals q ≤ after.refusals q
  pub half : Did s r h now after
