use Rattle.std.proofs.Common.{List, subst}
use Rattle.cb_kept.specs.declared.kept.Kept.{Kept}
use Rattle.cb_kept.specs.CallsOver.{operation_faults}
use Rattle.cb_kept.specs.KeptAnswers.{numbered_faults}
use Rattle.cb_kept.specs.KeptSums.{IsKeptShare}
use Rattle.cb_ffi.specs.Calls.{IsCall}
use Rattle.cb_ffi.specs.KeptCalls.{IsShareCall}
use Rattle.cb_ffi.proofs.Calls.{call_of}
use Rattle.cb_ffi.proofs.GivenMatrices.{first_lent}
use Rattle.cb_ffi.proofs.share_kept.Goals as goal

pub returns : goal.returns
unfolding IsShareCall
returns c =
    let o = c.args.operation in
    subst (λ (ks : List Kept). IsCall (numbered_faults operation_faults o ks) (IsKeptShare o c.args.first c.args.end ks) c.put.result c.args.out.now c.put.new.out)
    (first_lent c.sum_count_of.result _ c.args.given.now c.sum_count_of.ensures)
    (call_of _ _ _ _ _ _ c.kept_share_of_sum-answer.ensures c.put.ensures.ok c.put.ensures.refused)
