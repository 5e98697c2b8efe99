-- What one rank does by itself: its program, half by half, on its own slots and its own ends of lanes.
use Rattle.std.specs.Prelude.{◌≡◌, ℕ, ◌+◌, ◌⊎◌, ◌==◌, Bool, true, false, if◌then◌else◌, List, [], ◌∷◌, ◌++◌, length, get_or, slice_set, Option, Some, None}
use Rattle.cb_semirings.specs.Arithmetic.{Arithmetic}
use Rattle.cb_matrix.specs.Sparse.{Sparse, Extent}
use Rattle.cb_letters.specs.declared.Letter.{Letter}
use Rattle.cb_letters.specs.declared.Tag.{Tag}
use Rattle.cb_letters.specs.declared.Body.{Body}
use Rattle.cb_letters.specs.declared.Body.TheVariants as body_is
use Rattle.cb_letters.specs.Letters.{mark_tag}
use Rattle.cb_plan.specs.declared.acts.Op.{Op}
use Rattle.cb_plan.specs.declared.acts.Op.TheVariants as op_is
use Rattle.cb_plan.specs.declared.acts.Half.{Half}
use Rattle.cb_plan.specs.declared.acts.Half.TheVariants as half_is
use Rattle.cb_plan.specs.declared.stores.Slot.{Slot}
use Rattle.cb_plan.specs.declared.stores.Slot.TheVariants as slot_is
use Rattle.cb_plan.specs.Meaning.{needs_memory, result_of, target_of}
use Rattle.cb_plan.specs.Algebras.{matrices}
use Rattle.cb_plan.specs.Checks.{operands_of}
use Rattle.cb_plan.specs.Stores.{sheets_in, slot_of}

abbrev pub slot_at : List (Slot Sparse) → ℕ → Slot Sparse
slot_at slots n = get_or slots n slot_is.Empty

-- the origin in a slot that is lost, or else one found later
abbrev pub origin_of : Slot Sparse → Option ℕ → Option ℕ
origin_of (slot_is.Lost origin) later = Some origin
origin_of slot_is.Empty later = later
origin_of (slot_is.Sheet m) later = later

-- the origin in the first slot of these that is lost
abbrev pub first_lost : List (Slot Sparse) → List ℕ → Option ℕ
first_lost slots [] = None
first_lost slots (n ∷ ns) = origin_of (slot_at slots n) (first_lost slots ns)

-- the slots whose loss makes the result lost: a Clear has none, since it also empties a lost slot
abbrev pub reads_of : Op → List ℕ
reads_of (op_is.Clear slot) = []
reads_of op = operands_of op

-- if an operand is lost, so is the result; otherwise it is what the plan means
abbrev pub loss_or_result : Arithmetic → Op → List (Slot Sparse) → Option ℕ → Slot Sparse
loss_or_result s op slots (Some origin) = slot_is.Lost origin
loss_or_result s op slots None = slot_of (result_of (matrices s) op (sheets_in slots))

abbrev pub work_result : Arithmetic → Op → List (Slot Sparse) → Slot Sparse
work_result s op slots = loss_or_result s op slots (first_lost slots (reads_of op))

-- the slots after an operation for which there is memory
abbrev pub worked : Arithmetic → Op → List (Slot Sparse) → List (Slot Sparse)
worked s op slots = slice_set slots (target_of op) (work_result s op slots)

-- the slots after operations for which there is memory, one after the other
abbrev pub worked_all : Arithmetic → List Op → List (Slot Sparse) → List (Slot Sparse)
worked_all s [] slots = slots
worked_all s (op ∷ ops) slots = worked_all s ops (worked s op slots)

-- what rank `me` posts for a slot: a copy of its sheet, or, if memory for that is refused, the loss at `me`, whose count of
-- refusals rises by one; for a lost slot, its origin
abbrev pub IsCopy : ℕ → Slot Sparse → Body Sparse → ℕ → ℕ → Type 0
IsCopy me (slot_is.Sheet m) (body_is.Sheet n) old new = (n ≡ m) × (new ≡ old)
IsCopy me (slot_is.Sheet m) (body_is.Lost origin) old new = (origin ≡ me) × (new ≡ old + 1)
IsCopy me (slot_is.Sheet m) body_is.Close old new = ⊥
IsCopy me (slot_is.Lost o) (body_is.Lost origin) old new = (origin ≡ o) × (new ≡ old)
IsCopy me (slot_is.Lost o) (body_is.Sheet n) old new = ⊥
IsCopy me (slot_is.Lost o) body_is.Close old new = ⊥
IsCopy me slot_is.Empty body old new = ⊥

-- what an operation of rank `me` leaves in its slot: its result, or, if it needs memory and no operand is lost, the loss at
-- `me`, whose count of refusals rises by one
abbrev pub IsWork : Arithmetic → ℕ → Op → List (Slot Sparse) → Slot Sparse → ℕ → ℕ → Type 0
IsWork s me op slots x old new =
    ((x ≡ work_result s op slots) × (new ≡ old))
    ⊎ ((x ≡ slot_is.Lost me) × (new ≡ old + 1) × (needs_memory op ≡ true) × (first_lost slots (reads_of op) ≡ None))

-- the slot that a letter fills
abbrev pub slot_of_body : Body Sparse → Slot Sparse
slot_of_body (body_is.Sheet m) = slot_is.Sheet m
slot_of_body (body_is.Lost origin) = slot_is.Lost origin
slot_of_body body_is.Close = slot_is.Empty

-- what a Take may take: a sheet of its shape, or the news that the sheet was lost
abbrev pub HasKind : Extent → Body Sparse → Type 0
HasKind shape (body_is.Sheet m) = m.shape ≡ shape
HasKind shape (body_is.Lost origin) = Unit {0}
HasKind shape body_is.Close = ⊥

-- how far a rank has come by itself: its slots, its count of refusals, and the letters posted to and taken from each rank
pub record Course : Type 0 where
  pub slots : List (Slot Sparse)
  pub refusals : ℕ
  pub posted : ℕ → List (Letter Sparse)
  pub taken : ℕ → List (Letter Sparse)

-- one more letter in the list for this rank
abbrev pub with_letter : (ℕ → List (Letter Sparse)) → ℕ → Letter Sparse → ℕ → List (Letter Sparse)
with_letter lists k x j = if k == j then lists j ++ x ∷ [] else lists j

-- the next letter from one rank to another, after these letters on the lane
abbrev pub letter_after : List (Letter Sparse) → ℕ → ℕ → Tag → Body Sparse → Letter Sparse
letter_after posted from to tag body = record { from = from; to = to; number = length posted; tag = tag; body = body }

-- rank `me` does one half
abbrev pub DoesHalf : Arithmetic → ℕ → Half → Course → Course → Type 0
DoesHalf s me (half_is.Post to tag slot) old new =
    (b : Body Sparse) × IsCopy me (slot_at old.slots slot) b old.refusals new.refusals
    × (new ≡ record old { refusals = new.refusals; posted = with_letter old.posted to (letter_after (old.posted to) me to tag b) })
DoesHalf s me (half_is.Take from tag into shape) old new =
    (x : Letter Sparse) × (x.tag ≡ tag) × HasKind shape x.body
    × (new ≡ record old { slots = slice_set old.slots into (slot_of_body x.body); taken = with_letter old.taken from x })
DoesHalf s me (half_is.Work op) old new =
    (x : Slot Sparse) × IsWork s me op old.slots x old.refusals new.refusals
    × (new ≡ record old { slots = slice_set old.slots (target_of op) x; refusals = new.refusals })
DoesHalf s me (half_is.Shut to) old new =
    new ≡ record old { posted = with_letter old.posted to (letter_after (old.posted to) me to mark_tag body_is.Close) }
DoesHalf s me (half_is.End from) old new =
    (x : Letter Sparse) × (x.body ≡ body_is.Close) × (x.tag ≡ mark_tag) × (new ≡ record old { taken = with_letter old.taken from x })

-- rank `me` does these halves, one after the other
abbrev pub RunsTo : Arithmetic → ℕ → List Half → Course → Course → Type 0
RunsTo s me [] old new = new ≡ old
RunsTo s me (h ∷ hs) old new = (mid : Course) × DoesHalf s me h old mid × RunsTo s me hs mid new

abbrev pub is_sheet : Slot Sparse → Bool
is_sheet slot_is.Empty = false
is_sheet (slot_is.Sheet m) = true
is_sheet (slot_is.Lost origin) = false

abbrev pub is_whole : Option ℕ → Bool
is_whole None = true
is_whole (Some origin) = false

-- whether a half asks for memory: it posts a copy of a sheet, or does an operation that needs memory and has no lost operand
abbrev pub asks_memory : List (Slot Sparse) → Half → Bool
asks_memory slots (half_is.Post to tag slot) = is_sheet (slot_at slots slot)
asks_memory slots (half_is.Work op) = if needs_memory op then is_whole (first_lost slots (reads_of op)) else false
asks_memory slots half = false
