-- Calls of a mailbox with their answers: what the caller sees of the letters of each lane.
use Rattle.std.specs.Prelude.{ℕ, ◌≡◌, ◌<◌, ◌≤◌, ◌==◌, Bool, true, false, not, List, [], ◌∷◌, ◌++◌, filter, All, AllPairs}
use Rattle.cb_letters.specs.declared.Letter.{Letter}
use Rattle.cb_letters.specs.declared.Body.TheVariants as Body
use Rattle.cb_letters.specs.declared.Taken.TheVariants as Taken
use Rattle.cb_letters.specs.Letters.{is_close, mark_tag}
use Rattle.cb_letters.specs.Lane.{IsDrained}
use Rattle.cb_letters.specs.Posted.{NothingAfterClose}
use Rattle.cb_mailbox.specs.declared.calls.Call.{Call}
use Rattle.cb_mailbox.specs.declared.calls.Call.TheVariants.{Post, Take, Close}
use Rattle.cb_mailbox.specs.declared.calls.Reply.{Reply}
use Rattle.cb_mailbox.specs.declared.calls.Reply.TheVariants.{Posted, Took}
use Rattle.cb_mailbox.specs.Inbox.{Inbox, is_stranger, lane_from}

module _ {P : Type 0} where
  abbrev pub when : Bool → Letter P → List (Letter P)
  when true x = x ∷ []
  when false x = []

  -- the letter that a call posted on the lane from one rank to another, with the number that the answer gave it
  abbrev pub accepted_by : ℕ → ℕ → Call P → Reply P → List (Letter P)
  accepted_by from to (Post f tag body) (Posted n) = when (f == from) (record { from = f; to = to; number = n; tag = tag; body = body })
  accepted_by from to (Close f) (Posted n) = when (f == from) (record { from = f; to = to; number = n; tag = mark_tag; body = Body.Close })
  accepted_by from to call answered = []

  -- the letter of this sender that a take handed out
  abbrev pub taken_by : ℕ → Call P → Reply P → List (Letter P)
  taken_by from (Take f) (Took (Taken.Letter x)) = when (f == from) x
  taken_by from call answered = []

  -- the letters that the calls posted on a lane, in order
  abbrev pub accepted_on : ℕ → ℕ → List (Call P) → List (Reply P) → List (Letter P)
  accepted_on from to (c ∷ cs) (a ∷ answers) = accepted_by from to c a ++ accepted_on from to cs answers
  accepted_on from to cs answers = []

  -- the letters of a sender that were handed out, in order
  abbrev pub taken_on : ℕ → List (Call P) → List (Reply P) → List (Letter P)
  taken_on from (c ∷ cs) (a ∷ answers) = taken_by from c a ++ taken_on from cs answers
  taken_on from cs answers = []

  -- the letters that aren't close marks
  abbrev pub without_marks : List (Letter P) → List (Letter P)
  without_marks xs = filter (λ x. not (is_close x.body)) xs

  -- each letter is taken at most once: the numbers of one sender's letters increase, and each is one that wasn't taken
  -- before and is now
  abbrev pub AreTakenOnce : Inbox P → Inbox P → List (Call P) → List (Reply P) → Type 0
  AreTakenOnce old new cs answers =
      (from : ℕ) → is_stranger old from ≡ false
      → AllPairs (λ x y. x.number < y.number) (taken_on from cs answers)
      × All (λ x. ((lane_from old from).taken ≤ x.number) × (x.number < (lane_from new from).taken)) (taken_on from cs answers)

  -- letters are taken by their addressee alone: what a take from a sender hands out goes from that sender to the
  -- mailbox's rank
  abbrev pub AreForAddressee : Inbox P → List (Call P) → List (Reply P) → Type 0
  AreForAddressee old cs answers = (from : ℕ) → is_stranger old from ≡ false → All (λ x. (x.from ≡ from) × (x.to ≡ old.me)) (taken_on from cs answers)

  -- letters are taken per sender in posting order: those queued before, followed by those accepted, are those taken,
  -- followed by those queued now
  abbrev pub AreInPostingOrder : Inbox P → Inbox P → List (Call P) → List (Reply P) → Type 0
  AreInPostingOrder old new cs answers =
      (from : ℕ) → is_stranger old from ≡ false
      → without_marks ((lane_from old from).queue ++ accepted_on from old.me cs answers) ≡ taken_on from cs answers ++ without_marks (lane_from new from).queue

  -- nothing is accepted after a close: nothing on a lane that was closed before, and nothing after a close mark on any lane
  abbrev pub NothingAcceptedAfterClose : Inbox P → List (Call P) → List (Reply P) → Type 0
  NothingAcceptedAfterClose old cs answers =
      (from : ℕ) → is_stranger old from ≡ false
      → ((lane_from old from).closed ≡ true → accepted_on from old.me cs answers ≡ []) × NothingAfterClose (accepted_on from old.me cs answers)

  -- a drained lane has given out all that was queued and accepted
  abbrev pub HasGivenOutAll : Inbox P → Inbox P → List (Call P) → List (Reply P) → Type 0
  HasGivenOutAll old new cs answers =
      (from : ℕ) → is_stranger old from ≡ false → IsDrained (lane_from new from)
      → taken_on from cs answers ≡ without_marks ((lane_from old from).queue ++ accepted_on from old.me cs answers)
