use Rattle.std.proofs.Common.{List, subst}
use Rattle.cb_operations.specs.Computations.{answer_of}
use Rattle.cb_kept.specs.declared.kept.Kept.{Kept}
use Rattle.cb_kept.specs.CallsOver.{refusal_faults}
use Rattle.cb_kept.specs.KeptAnswers.{HasColumns, numbered_faults}
use Rattle.cb_ffi.specs.KeptCalls.{IsComputationCall, IsKeptCall}
use Rattle.cb_ffi.proofs.KeptCalls.{kept_call_of}
use Rattle.cb_ffi.proofs.GivenMatrices.{first_lent}
use Rattle.cb_ffi.proofs.computation_kept.Goals as goal

pub returns : goal.returns
unfolding IsComputationCall
returns c =
    let o = c.args.computation in
    subst (λ (ks : List Kept). IsKeptCall (numbered_faults refusal_faults o ks) (HasColumns answer_of o c.args.first c.args.end ks) c.put_kept.result c.args.out.now c.put_kept.new.out)
    (first_lent c.count_of.result _ c.args.given.now c.count_of.ensures)
    (kept_call_of _ _ _ _ _ _ c.kept_computation-answer.ensures c.put_kept.ensures.ok c.put_kept.ensures.refused)
