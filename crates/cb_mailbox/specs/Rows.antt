-- A worked example: rank 1 posts to rank 0, closes its lane and posts once more, which is refused; rank 0 takes until the
-- end.
use Rattle.std.specs.Prelude.{ℕ, ◌≡◌, List, [], ◌∷◌, Some, refl}
use Rattle.cb_letters.specs.declared.Letter.{Letter}
use Rattle.cb_letters.specs.declared.Tag.{Tag}
use Rattle.cb_letters.specs.declared.Body.TheVariants as Body
use Rattle.cb_letters.specs.declared.Taken.TheVariants as Taken
use Rattle.cb_letters.specs.declared.PostRefusal.TheVariants as Refusal
use Rattle.cb_letters.specs.Letters.{mark_tag}
use Rattle.cb_mailbox.specs.declared.calls.Call.{Call}
use Rattle.cb_mailbox.specs.declared.calls.Call.TheVariants.{Post, Take, Close}
use Rattle.cb_mailbox.specs.declared.calls.Reply.{Reply}
use Rattle.cb_mailbox.specs.declared.calls.Reply.TheVariants.{Posted, Refused, Took}
use Rattle.cb_mailbox.specs.Exchanges.{accepted_on, taken_on, without_marks}

abbrev seven : Tag
seven = record { 0 = 7 }

abbrev first : Letter ℕ
first = record { from = 1; to = 0; number = 0; tag = seven; body = Body.Lost 5 }

abbrev mark : Letter ℕ
mark = record { from = 1; to = 0; number = 1; tag = mark_tag; body = Body.Close }

abbrev calls : List (Call ℕ)
calls = Post 1 seven (Body.Lost 5) ∷ Close 1 ∷ Post 1 seven (Body.Lost 6) ∷ Take 1 ∷ Take 1 ∷ Take 1 ∷ []

abbrev answers : List (Reply ℕ)
answers = Posted 0 ∷ Posted 1 ∷ Refused Refusal.Closed (Some (Body.Lost 6)) ∷ Took (Taken.Letter first) ∷ Took Taken.End ∷ Took Taken.End ∷ []

-- the post and the close were accepted
accepted : accepted_on 1 0 calls answers ≡ first ∷ mark ∷ []
accepted = refl

-- the post was taken, and the mark isn't handed out as a letter
taken : taken_on 1 calls answers ≡ first ∷ []
taken = refl

all_given : without_marks (accepted_on 1 0 calls answers) ≡ taken_on 1 calls answers
all_given = refl

-- nothing is said of another lane
elsewhere : accepted_on 2 0 calls answers ≡ []
elsewhere = refl
