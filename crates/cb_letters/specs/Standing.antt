-- The state of a lane as the rank that posts on it sees it: what may be posted, room aside.
use Rattle.std.specs.Prelude.{ℕ, ◌≡◌, ◌≢◌, ◌+◌, ◌-◌, ◌^◌, ◌==◌, Bool, if◌then◌else◌, Option, Some, None}
use Rattle.cb_letters.specs.declared.Body.{Body}
use Rattle.cb_letters.specs.declared.Letter.{Letter}
use Rattle.cb_letters.specs.declared.Tag.{Tag}
use Rattle.cb_letters.specs.declared.PostRefusal.{PostRefusal}
use Rattle.cb_letters.specs.declared.PostRefusal.TheVariants.{Stranger, Closed, Spent, Full}
use Rattle.cb_letters.specs.Letters.{is_close}

-- who posts on the lane; whether there is no such lane, because the other rank is the sender or no rank; whether a
-- close mark was posted; how many letters were posted, the mark included
pub record Standing : Type 0 where
  pub sender : ℕ
  pub is_stranger : Bool
  pub is_closed : Bool
  pub posted : ℕ

-- how many letters a lane can number: the last number of the type isn't used
abbrev pub last_number : ℕ
last_number = 2 ^ 64 - 1

-- why nothing more can be posted, even if there is room
abbrev pub standing_refusal : Standing → Option PostRefusal
standing_refusal s =
    if s.is_stranger then Some Stranger
    else (if s.is_closed then Some Closed
    else (if s.posted == last_number then Some Spent else None))

-- a post may be refused for this reason: as full only if nothing else refuses it, and for another reason only if that
-- is the first to hold
abbrev pub MayRefuse : Standing → Type 0 → PostRefusal → Type 0
MayRefuse s may_be_full Full = (standing_refusal s ≡ None) × may_be_full
MayRefuse s may_be_full Stranger = standing_refusal s ≡ Some Stranger
MayRefuse s may_be_full Closed = standing_refusal s ≡ Some Closed
MayRefuse s may_be_full Spent = standing_refusal s ≡ Some Spent

module _ {P : Type 0} where
  -- the letter that is posted next, with its number
  abbrev pub next_letter : Standing → ℕ → Tag → Body P → Letter P
  next_letter s to tag body = record { from = s.sender; to = to; number = s.posted; tag = tag; body = body }

  -- how the lane stands once this letter is posted
  abbrev pub stands_after : Letter P → Standing → Standing
  stands_after x s = record s { is_closed = is_close x.body; posted = s.posted + 1 }

  -- a post was accepted: nothing refused it, it got the next number, and the letter with that number is posted
  abbrev pub IsAccepted : Standing → ℕ → Tag → Body P → ℕ → (Letter P → Type 0) → Type 0
  IsAccepted s to tag body number posts = (standing_refusal s ≡ None) × (number ≡ s.posted) × posts (next_letter s to tag body)

module _ {Q : Type 0} (standing : Q → ℕ → Standing) (has_room : Q → ℕ → Type 0) where
  -- between these states of a rank's ends, one lane keeps its standing, and room if it had any
  abbrev pub KeepsLane : Q → Q → ℕ → Type 0
  KeepsLane p q k = (standing q k ≡ standing p k) × (has_room p k → has_room q k)

  -- a letter counts on its own lane, and changes no other
  abbrev pub CountsOn : {P : Type 0} → Q → Q → ℕ → Letter P → Type 0
  CountsOn p q to x = (standing q to ≡ stands_after x (standing p to)) × ((k : ℕ) → k ≢ to → KeepsLane p q k)
