use Rattle.std.proofs.Common.{rules, ◌≡◌, ◌+◌, ◌<◌, length, ap, ◌∙◌}
use Rattle.cb_rank_runs.proofs.OtherRanks.{err_is}
use Rattle.cb_rank_runs.specs.NamedRanks.{IsFaultOf}
use Rattle.cb_rank_crews.proofs.NewRings.{first_ring, other_rings, first_new}
use Rattle.cb_rank_crews.proofs.hiring.hire.Goals as goal

pub hire_one-requires-clause-name : goal.hire_one-requires-clause-name
hire_one-requires-clause-name g c κs within =
    let number : c.len-number.result ≡ length c.loop-errands.idle.items = search rules in
    ap g.J.Naming.ring number ∙ first_ring g.J.Naming.ring (length c.loop-errands.idle.items) _ _ (c.in-Some.errands, c.in-Some.slip) c.in-Some.ensures.steps.0 c.loop-errands.invariant.names

pub loop-errands-preserved : goal.loop-errands-preserved
loop-errands-preserved g c =
    let more : length c.push_reserved.new.self.items ≡ length c.loop-errands.idle.items + 1 = search rules in
    record {
      new = (first_new _ _ (c.in-Some.errands, c.in-Some.slip) c.in-Some.ensures.steps.0 c.loop-errands.invariant.new).1;
      names = other_rings g.J.Naming.ring (length c.loop-errands.idle.items) _ _ _ (c.in-Some.errands, c.in-Some.slip) c.in-Some.ensures.steps.0 more c.loop-errands.invariant.names;
      room = search rules;
      count = search rules;
    }

pub returns-in_err-hire_one-clause-fault : goal.returns-in_err-hire_one-clause-fault
returns-in_err-hire_one-clause-fault g c =
    let n = length c.args.rings in
    let below : c.len-number.result < n = search rules in
    err_is (IsFaultOf n) c.in_err-hire_one.field-0.0 c.from_residual-in_err-hire_one.result c.from_residual-in_err-hire_one.ensures.1 (c.in_err-hire_one.ensures.fault n below)
