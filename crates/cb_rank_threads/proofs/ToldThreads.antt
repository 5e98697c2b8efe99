-- Recorders that are told of the events of all ranks' programs.
use Rattle.std.proofs.Common.{◌≡◌, ℕ, zero, suc, ◌<◌, List, [], ◌∷◌, ◌++◌, length, map, refl, sym, ◌∙◌, ap, subst, arith, append_assoc, append-nil, Option, Some, None, IfNone}
use Rattle.std.specs.Prelude.{get_or, slice_get}
use Rattle.std.specs.List.{FoldsTo}
use Rattle.std.proofs.lemmas.Option.{get_or_from_slice_get}
use Rattle.cb_matrix.specs.Sparse.{Sparse}
use Rattle.cb_plan.specs.declared.stores.Slot.{Slot}
use Rattle.cb_plan.specs.Plans.{CheckedView}
use Rattle.cb_rank.specs.Ranks.{RankView}
use Rattle.cb_trace.specs.declared.events.TraceEvent.{TraceEvent}
use Rattle.cb_rank_runs.specs.Crews.{Member, IsCrew}
use Rattle.cb_rank_runs.specs.ProgramEvents.{program_events}
use Rattle.cb_rank_threads.specs.ToldCrews.{HaveTold, HaveToldPlan}

module _ {T : Type 0} (tells : T → TraceEvent → T → Type 0) where
  module _ {H : Type 0} (f : H → Member) (g : H → T) where
    -- the loop over threads: recorders that were returned, followed by those of the rest, were told of all programs
    abbrev pub Tell : List H → List H → List T → Type 0
    Tell all rest done = (ys : List T) → HaveTold tells (map f rest) (map g rest) ys → HaveTold tells (map f all) (map g all) (done ++ ys)

    -- one more recorder was returned, if no rank was lost
    pub told_more : {L : Type 0} (lost : Option L) (all : List H) (done done' : List T) (rest rest' : List H) (x : H) (y : T)
        → rest ≡ x ∷ rest' → done' ≡ done ++ y ∷ [] → FoldsTo tells (g x) (program_events (f x).0.me (f x).0.program) y
        → IfNone lost (Tell all rest done) → IfNone lost (Tell all rest' done')
    told_more (Some n) all done done' rest rest' x y e d r h = tt
    told_more None all done done' rest rest' x y e d r h = λ ys z. rw (d, append_assoc) (h (y ∷ ys) (rw e (r, z)))

    -- all recorders were returned
    pub told_all : {L : Type 0} (lost : Option L) (all : List H) (done : List T) (rest : List H)
        → lost ≡ None → length rest ≡ 0 → IfNone lost (Tell all rest done) → HaveTold tells (map f all) (map g all) done
    told_all (Some n) all done rest is none h = cc
    told_all None all done [] is none h = rw append-nil at (h [] tt)
    told_all None all done (x ∷ xs) is none h = absurd (omega arith)

  told_count : (ms : List Member) (olds news : List T) → HaveTold tells ms olds news → length news ≡ length ms
  told_count [] [] [] h = refl
  told_count (m ∷ ms) (o ∷ olds) (n ∷ news) h = ap suc (told_count ms olds news h.1)
  told_count _ _ _ h = absurd h

  -- the k-th recorder, before and after
  record ToldAt (ms : List Member) (olds news : List T) (k : ℕ) : Type 0 where
    member : Member
    old : T
    new : T
    member_is : slice_get ms k ≡ Some member
    old_is : slice_get olds k ≡ Some old
    new_is : slice_get news k ≡ Some new
    told : FoldsTo tells old (program_events member.0.me member.0.program) new

  told_at : (ms : List Member) (olds news : List T) (k : ℕ) → HaveTold tells ms olds news → k < length ms → ToldAt ms olds news k
  told_at [] [] [] k h l = absurd (omega arith)
  told_at (m ∷ ms) (o ∷ olds) (n ∷ news) zero h l = record { member = m; old = o; new = n; member_is = refl; old_is = refl; new_is = refl; told = h.0 }
  told_at (m ∷ ms) (o ∷ olds) (n ∷ news) (suc k) h l =
      let it = told_at ms olds news k h.1 (omega arith) in
      record { member = it.member; old = it.old; new = it.new; member_is = it.member_is; old_is = it.old_is; new_is = it.new_is; told = it.told }
  told_at _ _ _ k h l = absurd h

  -- the recorders of a plan's crew were told of its programs
  pub tells_plan : (p : CheckedView) (first : List (List (Slot Sparse))) (crew : List Member) (olds news : List T) → IsCrew p first crew → HaveTold tells crew olds news → HaveToldPlan tells p olds news
  tells_plan p first crew olds news is told = record {
    count = told_count crew olds news told ∙ is.count;
    each = λ r below.
        let size = is.count in
        let inside : r < length crew = omega arith in
        let it = told_at crew olds news r told inside in
        let here : get_or crew r it.member ≡ it.member = get_or_from_slice_get crew r it.member it.member it.member_is in
        let rank = ap (λ (m : Member). m.0) (sym here) ∙ is.ranks r it.member inside in
        record { old = it.old; new = it.new; old_is = it.old_is; new_is = it.new_is; told = subst (λ (x : RankView). FoldsTo tells it.old (program_events x.me x.program) it.new) rank it.told };
  }
