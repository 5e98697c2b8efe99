-- What a recorder is told of: a rank's events, half by half.
use Rattle.std.proofs.Common.{◌≡◌, ℕ, zero, suc, ◌+◌, ◌≤◌, List, [], ◌∷◌, length, refl, sym, ◌∙◌, ap, subst, arith, length-append, Some, None, inl, inr}
use Rattle.std.specs.Prelude.{drop, slice_get, ◌==◌}
use Rattle.std.specs.List.{FoldsTo}
use Rattle.cb_semirings.specs.Arithmetic.{Arithmetic}
use Rattle.cb_matrix.specs.Sparse.{Sparse}
use Rattle.cb_letters.specs.declared.Body.{Body}
use Rattle.cb_letters.specs.declared.Letter.{Letter}
use Rattle.cb_letters.specs.declared.Tag.{Tag}
use Rattle.cb_letters.specs.Letters.{mark_tag}
use Rattle.cb_lanes.specs.declared.desk.Desk.{Desk}
use Rattle.cb_lanes.specs.Desks.{posted_to, taken_from}
use Rattle.cb_plan.specs.declared.acts.Half.{Half}
use Rattle.cb_plan.specs.declared.acts.Half.TheVariants as half_is
use Rattle.cb_rank.specs.Halves.{Course, DoesHalf, with_letter}
use Rattle.cb_plan.specs.declared.acts.Op.{Op}
use Rattle.cb_rank.specs.declared.wants.Arrival.{Arrival}
use Rattle.cb_rank.specs.declared.wants.Arrival.TheVariants as arrival_is
use Rattle.cb_rank.specs.Ranks.{RankView, IsRank, next_half, IsAwaited}
use Rattle.cb_rank.specs.Steps.{HandsOut, WorksTimes}
use Rattle.cb_rank.proofs.WantedHalf.{wants_take, wants_end}
use Rattle.cb_plan.proofs.Effects.{split}
use Rattle.cb_trace.specs.declared.events.Envelope.{Envelope}
use Rattle.cb_trace.specs.declared.events.TraceEvent.{TraceEvent}
use Rattle.cb_trace.specs.declared.events.TraceEvent.TheVariants.{Posted, Took, Closed, Ended}
use Rattle.cb_rank_runs.specs.Runs.{IsNewRun}
use Rattle.cb_rank_runs.specs.UnderWay.{IsUnderWay, DoesNext, TellsNext, arrival_event}
use Rattle.cb_rank_runs.specs.ProgramEvents.{lengths, one_more, events_after, program_events}
use Rattle.cb_rank_runs.proofs.Crews.{none_posted, none_taken}
use Rattle.cb_rank_runs.proofs.HalfOverDesk.{WaitsOn, does_work, works_next}
use Rattle.cb_rank_runs.proofs.RunSoFar.{HasRun, goes_on, none_past}

-- the rest of a list from its next element on
pub drop-next : {X : Type 0} (xs : List X) (k : ℕ) (x : X) → slice_get xs k ≡ Some x → drop k xs ≡ x ∷ drop (k + 1) xs
drop-next [] k x e = cc
drop-next (y ∷ ys) zero x e = cc
drop-next (y ∷ ys) (suc k) x e = let n : suc k + 1 ≡ suc (k + 1) = omega arith in rw n (drop-next ys k x e)

drop-past : {X : Type 0} (xs : List X) (k : ℕ) → length xs ≤ k → drop k xs ≡ []
drop-past [] zero l = refl
drop-past [] (suc k) l = refl
drop-past (x ∷ xs) zero l = absurd (omega arith)
drop-past (x ∷ xs) (suc k) l = drop-past xs k (omega arith)

drop-none : {X : Type 0} (xs : List X) → drop 0 xs ≡ xs
drop-none [] = refl
drop-none (x ∷ xs) = refl

abbrev with_tag : Envelope → Tag → Envelope
with_tag e tag = record e { tag = tag }

-- one more letter in the list for one rank
lengths_at : (lists : ℕ → List (Letter Sparse)) (k : ℕ) (x : Letter Sparse) (j : ℕ) → lengths (with_letter lists k x) j ≡ one_more (lengths lists) k j
lengths_at lists k x j = split (k == j) (λ t. rw t (length-append (lists j) (x ∷ []))) (λ f. rw f refl)

lengths_with : (lists : ℕ → List (Letter Sparse)) (k : ℕ) (x : Letter Sparse) → lengths (with_letter lists k x) ≡ one_more (lengths lists) k
lengths_with lists k x = λ i j. lengths_at lists k x j i

module _ {T : Type 0} (tells : T → TraceEvent → T → Type 0) where
  one_event : (e : TraceEvent) (es : List TraceEvent) (t u last : T) → FoldsTo tells t (e ∷ []) u → FoldsTo tells u es last → FoldsTo tells t (e ∷ es) last
  one_event e es t u last told rest = (told.0, told.1, subst (λ z. FoldsTo tells z es last) (sym told.2) rest)

  -- the events of a half, and then those of the rest
  half_told : (s : Arithmetic) (me : ℕ) (half : Half) (rest : List Half) (old new : Course) (t u last : T) → DoesHalf s me half old new
      → FoldsTo tells t (events_after me (lengths old.posted) (lengths old.taken) (half ∷ [])) u
      → FoldsTo tells u (events_after me (lengths new.posted) (lengths new.taken) rest) last
      → FoldsTo tells t (events_after me (lengths old.posted) (lengths old.taken) (half ∷ rest)) last
  half_told s me (half_is.Post to tag slot) rest old new t u last does told after =
      let p : lengths new.posted ≡ one_more (lengths old.posted) to = ap (λ (c : Course). lengths c.posted) does.2 ∙ lengths_with old.posted to (record { from = me; to = to; number = length (old.posted to); tag = tag; body = does.0 }) in
      let q : new.taken ≡ old.taken = ap (λ (c : Course). c.taken) does.2 in
      one_event _ (events_after me (one_more (lengths old.posted) to) (lengths old.taken) rest) t u last told
      (subst (λ f. FoldsTo tells u (events_after me f (lengths old.taken) rest) last) p (subst (λ z. FoldsTo tells u (events_after me (lengths new.posted) (lengths z) rest) last) q after))
  half_told s me (half_is.Take from tag into shape) rest old new t u last does told after =
      let p : lengths new.taken ≡ one_more (lengths old.taken) from = ap (λ (c : Course). lengths c.taken) does.3 ∙ lengths_with old.taken from does.0 in
      let q : new.posted ≡ old.posted = ap (λ (c : Course). c.posted) does.3 in
      one_event _ (events_after me (lengths old.posted) (one_more (lengths old.taken) from) rest) t u last told
      (subst (λ f. FoldsTo tells u (events_after me (lengths old.posted) f rest) last) p (subst (λ z. FoldsTo tells u (events_after me (lengths z) (lengths new.taken) rest) last) q after))
  half_told s me (half_is.Work op) rest old new t u last does told after =
      let p : new.posted ≡ old.posted = ap (λ (c : Course). c.posted) does.2 in
      let q : new.taken ≡ old.taken = ap (λ (c : Course). c.taken) does.2 in
      subst (λ z. FoldsTo tells z (events_after me (lengths old.posted) (lengths old.taken) rest) last) (sym told)
      (subst (λ z. FoldsTo tells u (events_after me (lengths z) (lengths old.taken) rest) last) p (subst (λ z. FoldsTo tells u (events_after me (lengths new.posted) (lengths z) rest) last) q after))
  half_told s me (half_is.Shut to) rest old new t u last does told after =
      let p : lengths new.posted ≡ one_more (lengths old.posted) to = ap (λ (c : Course). lengths c.posted) does ∙ lengths_with old.posted to _ in
      let q : new.taken ≡ old.taken = ap (λ (c : Course). c.taken) does in
      one_event _ (events_after me (one_more (lengths old.posted) to) (lengths old.taken) rest) t u last told
      (subst (λ f. FoldsTo tells u (events_after me f (lengths old.taken) rest) last) p (subst (λ z. FoldsTo tells u (events_after me (lengths new.posted) (lengths z) rest) last) q after))
  half_told s me (half_is.End from) rest old new t u last does told after =
      let p : lengths new.taken ≡ one_more (lengths old.taken) from = ap (λ (c : Course). lengths c.taken) does.3 ∙ lengths_with old.taken from does.0 in
      let q : new.posted ≡ old.posted = ap (λ (c : Course). c.posted) does.3 in
      one_event _ (events_after me (lengths old.posted) (one_more (lengths old.taken) from) rest) t u last told
      (subst (λ f. FoldsTo tells u (events_after me (lengths old.posted) f rest) last) p (subst (λ z. FoldsTo tells u (events_after me (lengths z) (lengths new.taken) rest) last) q after))

  -- the event of a Post
  pub tells_post : (x y : RankView) (d : Desk Sparse) (to : ℕ) (tag : Tag) (slot : ℕ) (t : Tag) (body : Body Sparse) (e : Envelope) (old new : T) → IsUnderWay x d → next_half x ≡ Some (half_is.Post to tag slot)
      → HandsOut x (next_half x) t body y → e ≡ record { from = d.me; to = to; number = length (posted_to d to); tag = t } → tells old (Posted e) new → TellsNext tells x d old new
  tells_post x y d to tag slot t body e old new was next hands is told =
      let h = rw next at hands in
      let same : e ≡ record { from = x.me; to = to; number = length (posted_to d to); tag = tag } = is ∙ rw (was.me, h.0) refl in
      rw next (new, subst (λ z. tells old (Posted z) new) same told, refl)

  -- the event of a Shut
  pub tells_shut : (x : RankView) (d : Desk Sparse) (to : ℕ) (e : Envelope) (old new : T) → IsUnderWay x d → next_half x ≡ Some (half_is.Shut to)
      → e ≡ record { from = d.me; to = to; number = length (posted_to d to); tag = mark_tag } → tells old (Closed e) new → TellsNext tells x d old new
  tells_shut x d to e old new was next is told =
      let same : e ≡ record { from = x.me; to = to; number = length (posted_to d to); tag = mark_tag } = is ∙ rw was.me refl in
      rw next (new, subst (λ z. tells old (Closed z) new) same told, refl)

  -- the event of a Take or an End
  pub tells_arrival : (x : RankView) (d : Desk Sparse) (from : ℕ) (arrival : Arrival Sparse) (e : Envelope) (old new : T) → IsUnderWay x d → WaitsOn x from → IsAwaited (next_half x) x.me arrival
      → e ≡ record { from = from; to = d.me; number = length (taken_from d from); tag = mark_tag } → tells old (arrival_event e arrival) new → TellsNext tells x d old new
  tells_arrival x d from (arrival_is.Letter letter) e old new was (inl w) waits is told =
      let it = wants_take (next_half x) from w in
      let h = rw it.3 at waits in
      let mark : Envelope = record { from = from; to = d.me; number = length (taken_from d from); tag = mark_tag } in
      let due : Envelope = record { from = from; to = x.me; number = length (taken_from d from); tag = it.0 } in
      let found : with_tag e letter.tag ≡ with_tag mark letter.tag = ap (λ (z : Envelope). with_tag z letter.tag) is in
      let same : with_tag mark letter.tag ≡ due = rw (was.me, h.2) refl in
      rw it.3 (new, subst (λ (z : Envelope). tells old (Took z) new) (found ∙ same) told, refl)
  tells_arrival x d from (arrival_is.Letter letter) e old new was (inr w) waits is told = absurd (rw (wants_end (next_half x) from w) at waits)
  tells_arrival x d from (arrival_is.End sender) e old new was (inl w) waits is told = absurd (rw (wants_take (next_half x) from w).3 at waits)
  tells_arrival x d from (arrival_is.End sender) e old new was (inr w) waits is told =
      let same : e ≡ record { from = from; to = x.me; number = length (taken_from d from); tag = mark_tag } = is ∙ rw was.me refl in
      rw (wants_end (next_half x) from w) (new, subst (λ z. tells old (Ended z) new) same told, refl)

  -- a Work has no event
  pub tells_work : (x : RankView) (d : Desk Sparse) (op : Op) (old : T) → next_half x ≡ Some (half_is.Work op) → TellsNext tells x d old old
  tells_work x d op old next = rw next refl

  -- the events of the halves that a rank hasn't done
  abbrev pub left : RankView → Desk Sparse → List TraceEvent
  left x d = events_after x.me (lengths (posted_to d)) (lengths (taken_from d)) (drop x.done x.program)

  -- a recorder was told of what a rank has done: with the events of the rest it is told of the whole program
  abbrev pub HasTold : T → RankView → T → RankView → Desk Sparse → Type 0
  HasTold first x now y e = (last : T) → FoldsTo tells now (left y e) last → FoldsTo tells first (program_events x.me x.program) last

  -- a rank that has done nothing
  pub begins_told : (t : T) (x : RankView) (d : Desk Sparse) → IsNewRun x d → HasTold t x t x d
  begins_told t x d new last h =
      let p : lengths (posted_to d) ≡ (λ _. 0) = λ i k. (ap length (none_posted new.capacity x.plan.ranks x.me d new.desk k)) i in
      let q : lengths (taken_from d) ≡ (λ _. 0) = λ i k. (ap length (none_taken new.capacity x.plan.ranks x.me d new.desk k)) i in
      let r : drop x.done x.program ≡ x.program = ap (λ n. drop n x.program) new.undone ∙ drop-none x.program in
      subst (λ hs. FoldsTo tells t (events_after x.me (λ _. 0) (λ _. 0) hs) last) r
      (subst (λ f. FoldsTo tells t (events_after x.me f (λ _. 0) (drop x.done x.program)) last) p
      (subst (λ f. FoldsTo tells t (events_after x.me (lengths (posted_to d)) f (drop x.done x.program)) last) q h))

  -- one more half
  pub goes_on_told : (s : Arithmetic) (t : T) (x : RankView) (d : Desk Sparse) (u : T) (y : RankView) (e : Desk Sparse) (v : T) (z : RankView) (f : Desk Sparse) → HasRun s x d y e → HasTold t x u y e → DoesNext s y e z f → TellsNext tells y e u v → HasTold t x v z f
  goes_on_told s t x d u y e v z f run told next tell last h =
      let done : z.done ≡ y.done + 1 = ap (λ (w : RankView). w.done) next.one_more in
      let me : z.me ≡ y.me = ap (λ (w : RankView). w.me) next.one_more in
      let program : z.program ≡ y.program = ap (λ (w : RankView). w.program) next.one_more in
      let more : drop y.done y.program ≡ next.half ∷ drop (y.done + 1) y.program = drop-next y.program y.done next.half next.next in
      let one : FoldsTo tells u (events_after y.me (lengths (posted_to e)) (lengths (taken_from e)) (next.half ∷ [])) v = rw next.next at tell in
      let after : FoldsTo tells v (events_after y.me (lengths (posted_to f)) (lengths (taken_from f)) (drop (y.done + 1) y.program)) last =
      subst (λ n. FoldsTo tells v (events_after y.me (lengths (posted_to f)) (lengths (taken_from f)) (drop n y.program)) last) done
      (subst (λ hs. FoldsTo tells v (events_after y.me (lengths (posted_to f)) (lengths (taken_from f)) (drop z.done hs)) last) program
      (subst (λ m. FoldsTo tells v (events_after m (lengths (posted_to f)) (lengths (taken_from f)) (drop z.done z.program)) last) me h)) in
      told last (subst (λ hs. FoldsTo tells u (events_after y.me (lengths (posted_to e)) (lengths (taken_from e)) hs) last) (sym more)
      (half_told s y.me next.half (drop (y.done + 1) y.program) _ _ u v last next.does one after))

  -- a rank that has done its program
  pub ends_told : (t : T) (x : RankView) (u : T) (y : RankView) (e : Desk Sparse) → HasTold t x u y e → next_half y ≡ None → FoldsTo tells t (program_events x.me x.program) u
  ends_told t x u y e told none =
      told u (subst (λ hs. FoldsTo tells u (events_after y.me (lengths (posted_to e)) (lengths (taken_from e)) hs) u) (sym (drop-past y.program y.done (none_past y.program y.done none))) refl)

  -- a rank that does operations one after the other runs on, and its recorder is told of nothing
  pub works_on_told : (s : Arithmetic) (t : T) (x : RankView) (d : Desk Sparse) (u : T) (e : Desk Sparse) (n : ℕ) (y z : RankView) → IsRank y → WorksTimes s n y z → HasRun s x d y e → HasTold t x u y e → HasRun s x d z e × HasTold t x u z e
  works_on_told s t x d u e zero y z is same run told = (subst (λ v. HasRun s x d v e) (sym same) run, subst (λ v. HasTold t x u v e) (sym same) told)
  works_on_told s t x d u e (suc n) y z is times run told =
      let mid : RankView = times.0 in
      let op = works_next s y (next_half y) mid times.2 in
      let next = does_work s y mid e op.0 is run.under_way op.1 times.2 in
      works_on_told s t x d u e n mid z times.1 times.3 (goes_on s x d y e mid e run next) (goes_on_told s t x d u y e u mid e run told next (tells_work y e op.0 u op.1))
