-- What the events of a world do to its lanes: the calls that ranks make of its mailboxes, with the answers; and what becomes of
-- the letters in every mailbox.
use Rattle.std.specs.Prelude.{◌≡◌, ℕ, ◌<◌, ◌==◌, List, [], ◌∷◌, ◌++◌, map, filter, Option, Some, None, slice_set}
use Rattle.cb_semirings.specs.Arithmetic.{Arithmetic}
use Rattle.cb_matrix.specs.Sparse.{Sparse}
use Rattle.cb_letters.specs.declared.Body.{Body}
use Rattle.cb_mailbox.specs.declared.calls.Call.{Call}
use Rattle.cb_mailbox.specs.declared.calls.Call.TheVariants as call_is
use Rattle.cb_mailbox.specs.declared.calls.Reply.{Reply}
use Rattle.cb_mailbox.specs.Inbox.{Inbox}
use Rattle.cb_mailbox.specs.Run.{answer, after}
use Rattle.cb_mailbox.specs.Exchanges as mailbox
use Rattle.cb_plan.specs.declared.acts.Half.{Half}
use Rattle.cb_plan.specs.declared.acts.Half.TheVariants as half_is
use Rattle.cb_rank.specs.declared.wants.Moved.{Moved}
use Rattle.cb_rank.specs.declared.wants.Moved.TheVariants as moved_is
use Rattle.cb_rank_world.specs.declared.events.Event.{Event}
use Rattle.cb_rank_world.specs.Ends.{box_in}
use Rattle.cb_rank_world.specs.Worlds.{WorldView, next_of}
use Rattle.cb_rank_world.specs.WorldSteps.{Steps, rank_in}

-- a call of the mailbox of rank `to`, with its answer
pub record Exchange : Type 0 where
  pub to : ℕ
  pub call : Call Sparse
  pub answered : Reply Sparse

-- the calls of rank t's mailbox, in order
abbrev pub calls_to : ℕ → List Exchange → List (Call Sparse)
calls_to t xs = map (λ x. x.call) (filter (λ x. x.to == t) xs)

-- the answers to them
abbrev pub answers_from : ℕ → List Exchange → List (Reply Sparse)
answers_from t xs = map (λ x. x.answered) (filter (λ x. x.to == t) xs)

-- this is the call that rank r makes for a half: it posts to the addressee's mailbox, closes the lane there, and takes from its
-- own
abbrev pub IsCallOf : ℕ → Option Half → Exchange → Type 0
IsCallOf r (Some (half_is.Post to tag slot)) x = (x.to ≡ to) × ((body : Body Sparse) × (x.call ≡ call_is.Post r tag body))
IsCallOf r (Some (half_is.Take from tag into shape)) x = (x.to ≡ r) × (x.call ≡ call_is.Take from)
IsCallOf r (Some (half_is.Shut to)) x = (x.to ≡ to) × (x.call ≡ call_is.Close r)
IsCallOf r (Some (half_is.End from)) x = (x.to ≡ r) × (x.call ≡ call_is.Take from)
IsCallOf r (Some (half_is.Work op)) x = ⊥
IsCallOf r None x = ⊥

-- the called mailbox gives this answer and changes as the call says, and no other mailbox changes
abbrev pub IsMade : Exchange → List (Inbox Sparse) → List (Inbox Sparse) → Type 0
IsMade x old new = (x.answered ≡ answer (box_in old x.to) x.call) × (new ≡ slice_set old x.to (after (box_in old x.to) x.call))

-- the calls that rank r makes in a step with this result: one if it did a half at a lane, and otherwise none
abbrev pub Calls : ℕ → Option Half → Moved → List Exchange → List (Inbox Sparse) → List (Inbox Sparse) → Type 0
Calls r half moved_is.Worked xs old new = xs ≡ []
Calls r half moved_is.Waiting xs old new = xs ≡ []
Calls r half moved_is.Idle xs old new = xs ≡ []
Calls r half moved xs old new = (x : Exchange) × (xs ≡ x ∷ []) × IsCallOf r half x × IsMade x old new

-- these are the calls of a run by these events from one world to another, step by step
abbrev pub AreCallsOf : Arithmetic → List Event → List Exchange → WorldView → WorldView → Type 0
AreCallsOf s [] xs old new = (xs ≡ []) × (new ≡ old)
AreCallsOf s (e ∷ es) xs old new =
    (moved : Moved) × (mid : WorldView) × (first : List Exchange) × (rest : List Exchange) × (xs ≡ first ++ rest)
    × Steps s e moved old mid × Calls (rank_in e) (next_of old (rank_in e)) moved first old.boxes mid.boxes × AreCallsOf s es rest mid new

-- in every mailbox each letter is taken at most once: the numbers of one sender's letters increase, and each is one that wasn't
-- taken before and is now
abbrev pub AreTakenOnce : WorldView → WorldView → List Exchange → Type 0
AreTakenOnce old new xs =
    (t : ℕ) → t < old.plan.ranks
    → mailbox.AreTakenOnce (box_in old.boxes t) (box_in new.boxes t) (calls_to t xs) (answers_from t xs)

-- letters are taken by their addressee alone: the mailbox of rank t has number t, and what a take there hands out goes from the
-- sender that was asked to rank t
abbrev pub AreForAddressee : WorldView → List Exchange → Type 0
AreForAddressee old xs =
    (t : ℕ) → t < old.plan.ranks
    → ((box_in old.boxes t).me ≡ t) × mailbox.AreForAddressee (box_in old.boxes t) (calls_to t xs) (answers_from t xs)

-- in every mailbox letters are taken per sender in posting order: those queued before, followed by those accepted, are those taken,
-- followed by those queued now
abbrev pub AreInPostingOrder : WorldView → WorldView → List Exchange → Type 0
AreInPostingOrder old new xs =
    (t : ℕ) → t < old.plan.ranks
    → mailbox.AreInPostingOrder (box_in old.boxes t) (box_in new.boxes t) (calls_to t xs) (answers_from t xs)

-- no mailbox accepts anything after a close: nothing on a lane that was closed before, and nothing after a close mark on any lane
abbrev pub NothingAcceptedAfterClose : WorldView → List Exchange → Type 0
NothingAcceptedAfterClose old xs =
    (t : ℕ) → t < old.plan.ranks
    → mailbox.NothingAcceptedAfterClose (box_in old.boxes t) (calls_to t xs) (answers_from t xs)

-- in every mailbox a drained lane has given out all that was queued and accepted
abbrev pub HasGivenOutAll : WorldView → WorldView → List Exchange → Type 0
HasGivenOutAll old new xs =
    (t : ℕ) → t < old.plan.ranks
    → mailbox.HasGivenOutAll (box_in old.boxes t) (box_in new.boxes t) (calls_to t xs) (answers_from t xs)
