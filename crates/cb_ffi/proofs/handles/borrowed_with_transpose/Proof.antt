use Rattle.cb_ffi.proofs.Steps.{List, [], ◌∷◌, refl, ap, proved, ftrue, Val, vptr, vstruct, vcons, vnil, tables, ‵, ◌⊛◌, prop, at_ret, ◌$◌, ◌∵◌, !, qed, done, keep, drop, split, join, fsplit, fjoin, feq_i, feq_l, regoal, suffices, group, whole, sub, enter, of_opd, addr, stop, fld, first, blocks, exec, returns, alloc_all, pass_all, free_all, look_at, get, get_in, through, sets, sets_last, env, WpFn, yes, ptr_val, owns, plain, nothing, only, Stays, walk_of, says, stay_dropped, Goes-dropped, ends_at}
use Rattle.cb_ffi.specs.contracts.handles.borrowed_with_transpose as f
use Rattle.cb_ffi.proofs.handles.borrowed_with_transpose.Statement.{statement}
use Rattle.cb_ffi.proofs.handles.borrowed_with_transpose.Code as code
use Rattle.cb_ffi.specs.contracts.handles.LentMatrix.{the_row as R}
use Rattle.cb_ffi.proofs.handles.LentMatrix.TheLaws.{lowered, lowers}

abbrev stayed : Stays f.ended.signature.params f.ended.kept
stayed = (stay_dropped _ yes, tt)

pub borrowed_with_transpose_spec : {M : Type 1} → statement M
borrowed_with_transpose_spec 𝓤 𝓛 𝓜 𝓡 wired =
    let c = f.clauses 𝓛 𝓜.mem 𝓡.returns in let W = walk_of 𝓛 f.ended stayed c in let 𝓣 = tables 𝓤 𝓛.H 𝓜 𝓡 𝓡.env in
    proved 𝓛 f.ended stayed c 𝓜 𝓡 (Goes-dropped 𝓛 0 (plain (λ _. R)) yes (λ κs x w. refl), tt)
    f.Key.name code.function (code.unfolded 𝓤 𝓛.H 𝓜 𝓡 wired)
    (λ κs. ((λ h. lowered h ∷ []), tt)) (λ κs. (lowers.val_is, tt)) (λ κs qs bounds a g are.
    let h = a.0 in let b = h.kept.ref_ptr.0 in let o = h.kept.ref_ptr.1 in
    let word : Val → List Val = λ v. vstruct (vcons v vnil) ∷ [] in
    let y : Val → W.Ghost = λ v. ((κs, qs, bounds, a, (word v, tt)), g) in
    qed 𝓛 ((‵ ftrue ⊛ ‵ (owns (R ∷ []) a (word (ptr_val h.at), tt))) ∷ ‵ ftrue ∷ []) ∵ split ! $ drop ! $ fsplit ! $ fsplit ! $ drop ! $ fsplit ! $
    feq_l ! (λ e. keep ! (0 ∷ []) $
    regoal ! (λ v. prop (WpFn 𝓤 𝓛.H 𝓣.C 𝓣.Λ code.function (word v) (W.post (y v)))) (ap only e) refl $
    enter ! _ _ _ _ _ $ alloc_all ! (λ l. pass_all ! refl ((tt, (tt, tt)), tt) $
    first ! $ blocks ! $
    sets ! (of_opd ! (get_in ! (fld ! refl (stop !)) (sub ! 0 refl (whole !)))) refl (tt, tt) $
    sets_last ! (addr ! (through ! refl (stop !))) refl (tt, tt) $
    exec ! 𝓣.C 𝓣.Λ (env code.Mir.locals l) code.Mir.t-2 (at_ret _ (W.post (y (vptr b o)))) $
    sets ! (of_opd ! (get ! refl)) refl (tt, tt) $
    returns ! (look_at ! 0 refl) $ free_all ! refl $
    suffices ! _ (ends_at 𝓛 f.ended stayed c (y (vptr b o)) (vptr b o) h.kept (tt, tt) (tt, tt)) $ says ! refl $
    feq_i ! (List Val) (vptr b o ∷ []) (vptr b o ∷ []) refl $ fjoin ! $ nothing ! $ nothing ! $ join ! $ nothing ! $ group ! 3 $ done !)))
