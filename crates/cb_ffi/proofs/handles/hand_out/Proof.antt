use Rattle.cb_ffi.proofs.Steps.{List, [], ◌∷◌, refl, proved, ftrue, Val, vptr, vstruct, vcons, vnil, tables, ‵, ◌⊛◌, ◌$◌, ◌∵◌, !, qed, done, keep, drop, split, join, fjoin, feq_i, suffices, group, enter, of_opd, addr, stop, returns, alloc_all, pass_all, free_all, look_at, get, through, sets, plain, nothing, Stays, walk_of, says, stay_dropped, ends_at, agg, and_then, no_more}
use Rattle.std.specs.Prelude.{Some}
use denote.Exit.{no}
use denote.Ref.{MutRef, mut_vals, mut_Tells}
use mir.Syntax.{static}
use types.Kit.{fpack}
use denote.RattleType.{Valss}
use denote.Builtin.{RawPtr}
use denote.Struct.Struct.{within}
use denote.Struct.Owning.{shape}
use Rattle.cb_ffi.specs.contracts.handles.OwnedMatrix.{the_type as T}
use denote.RawPtr.{block_ptr}
use denote.Triple.Walked.{Goes-spent_ref}
use Rattle.cb_ffi.specs.contracts.handles.hand_out as f
use Rattle.cb_ffi.proofs.handles.hand_out.Statement.{statement}
use Rattle.cb_ffi.proofs.handles.hand_out.Code as code
use Rattle.cb_kept.specs.contracts.kept_matrices.KeptMatrix.{the_row as K}

abbrev stayed : Stays f.ended.signature.params f.ended.kept
stayed = (stay_dropped _ no, tt)

pub hand_out_spec : {M : Type 1} → statement M
hand_out_spec 𝓤 𝓛 𝓜 𝓡 wired =
    let c = f.clauses 𝓛 𝓜.mem 𝓡.returns in let W = walk_of 𝓛 f.ended stayed c in let 𝓣 = tables 𝓤 𝓛.H 𝓜 𝓡 𝓡.env in
    proved 𝓛 f.ended stayed c 𝓜 𝓡 (Goes-spent_ref 𝓛 0 [] tt (plain (λ _. K)), tt)
    f.Key.name code.function (code.unfolded 𝓤 𝓛.H 𝓜 𝓡 wired)
    (λ κs. (mut_vals, tt)) (λ κs. (mut_Tells static [] K, tt)) (λ κs qs bounds a g are.
    let k = a.0 in let b = k.ref_ptr.0 in let o = k.ref_ptr.1 in let vs = mut_vals k in
    let y : W.Ghost = ((κs, qs, bounds, a, (vs, tt)), g) in
    let v : Val = vstruct (vcons (vptr b o) vnil) in
    qed 𝓛 ((‵ ftrue ⊛ ‵ ((MutRef static [] K).own_val k vs) ⊛ ‵ ftrue) ∷ ‵ ftrue ∷ []) ∵ split ! $ drop ! $ split ! $ keep ! (0 ∷ []) $
    enter ! _ _ _ _ _ $ alloc_all ! (λ l. pass_all ! refl ((tt, tt), tt) $
    sets ! (addr ! (through ! refl (stop !))) refl (tt, tt) $
    sets ! (of_opd ! (get ! refl)) refl (tt, tt) $
    sets ! (agg ! (and_then ! (get ! refl) (no_more !))) refl (tt, (tt, tt)) $
    returns ! (look_at ! 0 refl) $ free_all ! refl $
    suffices ! _ (ends_at 𝓛 f.ended stayed c y v (record { at = block_ptr b o; kept = Some k }) (tt, tt) (tt, tt)) $ says ! refl $
    nothing ! $ feq_i ! (List Val) (vptr b o ∷ []) (vptr b o ∷ []) refl $ fjoin ! $ feq_i ! (List Val) (v ∷ []) (v ∷ []) refl $ fjoin ! $
    fpack ! (Valss (RawPtr ∷ [])) (within (shape T) (block_ptr b o, tt) (v ∷ [])) (vptr b o ∷ [], tt) $ fjoin ! $ nothing ! $ nothing ! $ join ! $ nothing ! $ group ! 3 $ done !))
