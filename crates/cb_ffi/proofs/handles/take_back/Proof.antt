use Rattle.cb_ffi.proofs.Steps.{◌≡◌, List, [], ◌∷◌, refl, ap, proved, ftrue, Val, vptr, vstruct, vcons, vnil, tables, ‵, raw, ◌⊛◌, prop, at_ret, ◌$◌, ◌∵◌, !, qed, done, move, keep, drop, split, join, fsplit, fjoin, feq_i, feq_l, regoal, suffices, group, whole, sub, enter, of_opd, addr, stop, fld, first, blocks, exec, returns, alloc_all, pass_all, free_all, look_at, get, get_in, through, sets, sets_last, env, WpFn, yes, ptr_val, owns, plain, nothing, only, Stays, walk_of, says, stay_dropped, Goes-dropped, ends_at}
use contract.Monad.{fact}
use Rattle.std.proofs.Common.{true≢false, sym}
use types.Kit.{rewrite}
use denote.Steps.{heard}
use Rattle.std.specs.Prelude.{Option, Some, None, IsSome}
use Rattle.cb_ffi.specs.Handles.{owned_at}
use Rattle.cb_ffi.specs.contracts.handles.take_back as f
use Rattle.cb_ffi.proofs.handles.take_back.Statement.{statement}
use Rattle.cb_ffi.proofs.handles.take_back.Code as code
use Rattle.cb_ffi.specs.contracts.handles.OwnedMatrix.{the_row as R}
use Rattle.cb_ffi.proofs.handles.OwnedMatrix.TheLaws.{lowered, lowers}

abbrev stayed : Stays f.ended.signature.params f.ended.kept
stayed = (stay_dropped _ yes, tt)

some_of : {X : Type 0} (o : Option X) → IsSome o → (k : X) × (o ≡ Some k)
some_of (Some k) h = (k, refl)
some_of None h = elim (true≢false (sym h)) [ ]

pub take_back_spec : {M : Type 1} → statement M
take_back_spec 𝓤 𝓛 𝓜 𝓡 wired =
    let c = f.clauses 𝓛 𝓜.mem 𝓡.returns in let W = walk_of 𝓛 f.ended stayed c in let 𝓣 = tables 𝓤 𝓛.H 𝓜 𝓡 𝓡.env in
    proved 𝓛 f.ended stayed c 𝓜 𝓡 (Goes-dropped 𝓛 0 (plain (λ _. R)) yes (λ κs x w. refl), tt)
    f.Key.name code.function (code.unfolded 𝓤 𝓛.H 𝓜 𝓡 wired)
    (λ κs. ((λ h. lowered h ∷ []), tt)) (λ κs. (lowers.val_is, tt)) (λ κs qs bounds a g are.
    let h = a.0 in
    let word : Val → List Val = λ v. vstruct (vcons v vnil) ∷ [] in
    let y : Val → W.Ghost = λ v. ((κs, qs, bounds, a, (word v, tt)), g) in
    qed 𝓛 ((‵ ftrue ⊛ ‵ (owns (R ∷ []) a (word (ptr_val h.at), tt))) ∷ raw (fact 𝓤 (IsSome h.kept)) ∷ []) ∵ split ! $ drop ! $ fsplit ! $ fsplit ! $ drop ! $
    move ! (2 ∷ []) $ heard ! _ (λ is. let k = (some_of h.kept is).0 in let same = (some_of h.kept is).1 in
    let b = k.ref_ptr.0 in let o = k.ref_ptr.1 in
    rewrite ! 0 (λ x. ‵ (owned_at h.at x)) same refl $ fsplit ! $
    feq_l ! (λ e. keep ! (0 ∷ []) $
    regoal ! (λ v. prop (WpFn 𝓤 𝓛.H 𝓣.C 𝓣.Λ code.function (word v) (W.post (y v)))) (ap only e) refl $
    enter ! _ _ _ _ _ $ alloc_all ! (λ l. pass_all ! refl ((tt, (tt, tt)), tt) $
    first ! $ blocks ! $
    sets ! (of_opd ! (get_in ! (fld ! refl (stop !)) (sub ! 0 refl (whole !)))) refl (tt, tt) $
    sets_last ! (addr ! (through ! refl (stop !))) refl (tt, tt) $
    exec ! 𝓣.C 𝓣.Λ (env code.Mir.locals l) code.Mir.t-2 (at_ret _ (W.post (y (vptr b o)))) $
    sets ! (of_opd ! (get ! refl)) refl (tt, tt) $
    returns ! (look_at ! 0 refl) $ free_all ! refl $
    suffices ! _ (ends_at 𝓛 f.ended stayed c (y (vptr b o)) (vptr b o) k (tt, tt) (tt, tt)) $ says ! same $
    feq_i ! (List Val) (vptr b o ∷ []) (vptr b o ∷ []) refl $ fjoin ! $ nothing ! $ nothing ! $ join ! $ nothing ! $ group ! 3 $ done !))))
