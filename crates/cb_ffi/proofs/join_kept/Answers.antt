use Rattle.std.proofs.Common.{rules, refl, inl, Ok, Err}
use Rattle.cb_ffi.specs.KeptCalls.{HasHandedOut, IsJoinCall}
use Rattle.cb_ffi.proofs.KeptCalls.{kept_call_of}
use Rattle.cb_ffi.proofs.join_kept.Goals as goal

pub returns-in-Ok : goal.returns-in-Ok
unfolding IsJoinCall
returns-in-Ok c =
    let handed : HasHandedOut 0 c.args.out.now c.hand_out.result c.kept_join.new.front = inl (refl, search rules) in
    kept_call_of _ _ (Ok c.kept_join.new.front) 0 c.args.out.now c.hand_out.result (rw c.in-Ok.is at c.kept_join.ensures.answer) handed tt

pub returns-in-Err : goal.returns-in-Err
unfolding IsJoinCall
returns-in-Err c = kept_call_of _ _ (Err c.in-Err.fault) _ _ _ (rw c.in-Err.is at c.kept_join.ensures.answer) tt (search rules, search rules, refl)
