-- Lists of calls: what they answer, and what they leave.
use Rattle.std.specs.Prelude.{ℕ, ◌≡◌, false, if◌then◌else◌, List, [], ◌∷◌, ◌++◌, Option, Some, None}
use Rattle.cb_letters.specs.declared.Body.{Body}
use Rattle.cb_letters.specs.declared.Letter.{Letter}
use Rattle.cb_letters.specs.declared.Taken.TheVariants as Taken
use Rattle.cb_letters.specs.declared.PostRefusal.{PostRefusal}
use Rattle.cb_letters.specs.Letters.{is_close, mark_tag}
use Rattle.cb_letters.specs.Events.{Event, Sent, Got, posts_on, takes_on}
use Rattle.cb_letters.specs.Lane.{new_lane, posted, append, take_answer}
use Rattle.cb_mailbox.specs.declared.calls.Call.{Call}
use Rattle.cb_mailbox.specs.declared.calls.Call.TheVariants.{Post, Take, Close}
use Rattle.cb_mailbox.specs.declared.calls.Reply.{Reply}
use Rattle.cb_mailbox.specs.declared.calls.Reply.TheVariants.{Posted, Refused, Took}
use Rattle.cb_mailbox.specs.Inbox.{Inbox, is_stranger, lane_from, with_lane, with_take, post_refusal, next_letter}

module _ {P : Type 0} where
  -- a post must not carry a close mark: only Close posts one
  abbrev pub IsPostable : Call P → Type 0
  IsPostable (Post from tag body) = is_close body ≡ false
  IsPostable (Take from) = Unit {0}
  IsPostable (Close from) = Unit {0}

  abbrev pub post_answer : Option PostRefusal → ℕ → Option (Body P) → Reply P
  post_answer None number body = Posted number
  post_answer (Some refusal) number body = Refused refusal body

  abbrev pub after_post : Option PostRefusal → Inbox P → Letter P → Inbox P
  after_post None box x = with_lane box x.from (append (lane_from box x.from) x)
  after_post (Some refusal) box x = box

  -- what a call answers
  abbrev pub answer : Inbox P → Call P → Reply P
  answer box (Post from tag body) = post_answer (post_refusal box from) (posted (lane_from box from)) (Some body)
  answer box (Close from) = post_answer (post_refusal box from) (posted (lane_from box from)) None
  answer box (Take from) = Took (if is_stranger box from then Taken.Stranger else take_answer (lane_from box from))

  -- the mailbox after a call
  abbrev pub after : Inbox P → Call P → Inbox P
  after box (Post from tag body) = after_post (post_refusal box from) box (next_letter box from tag body)
  after box (Close from) = after_post (post_refusal box from) box (next_letter box from mark_tag Body.Close)
  after box (Take from) = if is_stranger box from then box else with_take box from

  -- the answers to a list of calls
  abbrev pub answers_to : Inbox P → List (Call P) → List (Reply P)
  answers_to box [] = []
  answers_to box (c ∷ cs) = answer box c ∷ answers_to (after box c) cs

  -- the mailbox after a list of calls
  abbrev pub after_all : Inbox P → List (Call P) → Inbox P
  after_all box [] = box
  after_all box (c ∷ cs) = after_all (after box c) cs

  abbrev pub post_events : Option PostRefusal → Letter P → List (Event P)
  post_events None x = Sent x.from x.to x ∷ []
  post_events (Some refusal) x = []

  abbrev pub take_events : ℕ → ℕ → List (Letter P) → List (Event P)
  take_events from to [] = []
  take_events from to (x ∷ xs) = Got from to x ∷ []

  -- the event of a call that posts or takes a letter; none for any other
  abbrev pub events_of : Inbox P → Call P → List (Event P)
  events_of box (Post from tag body) = post_events (post_refusal box from) (next_letter box from tag body)
  events_of box (Close from) = post_events (post_refusal box from) (next_letter box from mark_tag Body.Close)
  events_of box (Take from) = if is_stranger box from then [] else take_events from box.me (lane_from box from).queue

  -- the events of a list of calls
  abbrev pub events : Inbox P → List (Call P) → List (Event P)
  events box [] = []
  events box (c ∷ cs) = events_of box c ++ events (after box c) cs

  -- on each lane, what was queued and then posted is what was taken and what is queued afterwards
  abbrev pub IsBalanced : Inbox P → Inbox P → List (Event P) → Type 0
  IsBalanced old new es =
      (from : ℕ) → is_stranger old from ≡ false
      → (lane_from old from).queue ++ posts_on from old.me es ≡ takes_on from old.me es ++ (lane_from new from).queue

  -- nothing was posted yet
  abbrev pub IsNew : Inbox P → Type 0
  IsNew box = (from : ℕ) → is_stranger box from ≡ false → (capacity : ℕ) × (lane_from box from ≡ new_lane capacity)
