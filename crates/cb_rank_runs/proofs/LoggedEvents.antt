-- What the logs of a traced run keep.
use Rattle.std.proofs.Common.{◌≡◌, ℕ, zero, suc, false, List, [], ◌∷◌, ◌++◌, length, refl, sym, ◌∙◌, ap, subst, append_assoc, append-nil}
use Rattle.std.specs.Prelude.{get_or, slice_get, Some}
use Rattle.std.specs.List.{FoldsTo}
use Rattle.std.proofs.lemmas.List.{length-map}
use Rattle.std.proofs.lemmas.Option.{same_Some}
use Rattle.cb_trace.specs.declared.events.TraceEvent.{TraceEvent}
use Rattle.cb_rank_runs.specs.declared.logs.Log.{Log}
use Rattle.cb_rank_runs.specs.Logs.{AreNewLogs, AreWhole, Keeps, lists_in}
use Rattle.cb_rank_runs.proofs.Crews.{get_or_of}

module _ {S O : Type 0} where
  -- one more new log
  pub new_more : (logs : List (Log S O)) (log : Log S O) → AreNewLogs logs → log.is_torn ≡ false → log.events.items ≡ [] → AreNewLogs (logs ++ log ∷ [])
  new_more [] log h e f = ((e, f), tt)
  new_more (x ∷ xs) log h e f = (h.0, new_more xs log h.1 e f)

  new_at : (logs : List (Log S O)) (k : ℕ) (log : Log S O) → AreNewLogs logs → slice_get logs k ≡ Some log → log.events.items ≡ []
  new_at [] k log h e = cc
  new_at (x ∷ xs) zero log h e = subst (λ (l : Log S O). l.events.items ≡ []) (same_Some _ _ e) h.0.1
  new_at (x ∷ xs) (suc k) log h e = new_at xs k log h.1 e

  whole_at : (logs : List (Log S O)) (k : ℕ) (log : Log S O) → AreWhole logs → slice_get logs k ≡ Some log → log.is_torn ≡ false
  whole_at [] k log h e = cc
  whole_at (x ∷ xs) zero log h e = subst (λ (l : Log S O). l.is_torn ≡ false) (same_Some _ _ e) h.0
  whole_at (x ∷ xs) (suc k) log h e = whole_at xs k log h.1 e

  -- a log that isn't torn has all events that it was told of
  log_after : (es : List TraceEvent) (s t : Log S O) → FoldsTo Keeps s es t → t.is_torn ≡ false → (s.is_torn ≡ false) × (t.events.items ≡ s.events.items ++ es)
  log_after [] s t h whole = (ap (λ (l : Log S O). l.is_torn) h ∙ whole, rw append-nil (ap (λ (l : Log S O). l.events.items) (sym h)))
  log_after (e ∷ es) s t h whole =
      let rest = log_after es h.0 t h.2 whole in
      let here = h.1 rest.0 in
      (here.0, rw (rest.1, here.1, append_assoc) refl)

  -- a whole log that was new, and then was told of these events, has just them
  pub own_events : (olds news : List (Log S O)) (k : ℕ) (old new : Log S O) (es : List TraceEvent) → AreNewLogs olds → AreWhole news
      → slice_get olds k ≡ Some old → slice_get news k ≡ Some new → FoldsTo Keeps old es new → get_or (lists_in news) k [] ≡ es
  own_events olds news k old new es begun whole old_is new_is told =
      let kept = log_after es old new told (whole_at news k new whole new_is) in
      let none : old.events.items ≡ [] = new_at olds k old begun old_is in
      get_or_of (λ (l : Log S O). l.events.items) news k new [] new_is ∙ kept.1 ∙ ap (λ xs. xs ++ es) none

  -- there is a list of each log
  pub list_of_each : (logs : List (Log S O)) → length (lists_in logs) ≡ length logs
  list_of_each logs = length-map logs (λ (l : Log S O). l.events.items)
