-- A worked trace of two ranks: a letter with tag 7 is posted, the lane is closed, and the letter is taken.
use Rattle.std.specs.Prelude.{◌≡◌, List, [], ◌∷◌, map, refl}
use Rattle.std.proofs.Common.{sym, ap}
use Rattle.std.proofs.lemmas.Bool.{false≢true}
use Rattle.std.proofs.lemmas.Option.{none-some, same_Some}
use Rattle.cb_letters.specs.declared.Letter.{Letter}
use Rattle.cb_letters.specs.declared.Body.TheVariants.{Sheet, Close}
use Rattle.cb_letters.specs.Letters.{is_close}
use Rattle.cb_letters.specs.Events.{MayFollow}
use Rattle.cb_trace.specs.declared.events.Envelope.{Envelope}
use Rattle.cb_trace.specs.declared.events.TraceEvent.{TraceEvent}
use Rattle.cb_trace.specs.declared.events.TraceEvent.TheVariants.{Posted, Took, Closed, Ended}
use Rattle.cb_trace.specs.Traces.{letter_in, event_of, AreLegalEvents, events_by}

abbrev letter : Envelope
letter = record { from = 0; to = 1; number = 0; tag = record { 0 = 7 } }

abbrev mark : Envelope
mark = record { from = 0; to = 1; number = 1; tag = record { 0 = 0 } }

abbrev example : List TraceEvent
example = Posted letter ∷ Closed mark ∷ Took letter ∷ []

is_legal : AreLegalEvents example
is_legal =
    ((refl, refl, refl, refl, λ close. absurd (false≢true close)), ((refl, refl, refl, refl, λ close. refl), (refl, tt)))

-- what each rank did
by_rank : map (λ r. events_by r example) (0 ∷ 1 ∷ 2 ∷ []) ≡ (Posted letter ∷ Closed mark ∷ []) ∷ (Took letter ∷ []) ∷ [] ∷ []
by_rank = refl

-- nothing is taken before it is posted
not_before : MayFollow (map event_of []) (event_of (Took letter)) → ⊥
not_before may = none-some (letter_in letter (Sheet tt)) may

-- nothing is posted after the close
not_after : MayFollow (map event_of example) (event_of (Posted (record mark { number = 2 }))) → ⊥
not_after may = false≢true (sym may.3)

-- the letter is taken as a letter, not as the end of the lane
not_the_end : MayFollow (map event_of (Posted letter ∷ [])) (event_of (Ended letter)) → ⊥
not_the_end may =
    false≢true (ap (λ (x : Letter (Unit {0})). is_close x.body) (same_Some (letter_in letter (Sheet tt)) (letter_in letter Close) may))
