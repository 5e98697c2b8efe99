use Rattle.std.proofs.Common.{◌≡◌, ◌∙◌}
use Rattle.cb_rank_runs.specs.Crews.{AreNew, AreNewRanks, HaveCapacity, IsCrew, desks_of}
use Rattle.cb_rank_runs.proofs.Crews.{is_crew, are_new, have_capacity}
use Rattle.cb_rank_runs.proofs.CrewSoFar.{ok_both}
use Rattle.cb_rank_runs.proofs.crew.assemble.Goals as goal

pub returns : goal.returns
returns g c =
    let p = c.args.plan.now in
    let first = c.args.stores.items in
    let desks = c.in_ok-desks.desks.items in
    let is : (crew : _) → desks_of crew ≡ desks → AreNewRanks p first crew → IsCrew p first crew =
    λ crew same ranks. is_crew c.args.capacity p first crew desks (c.in_ok-desks.ensures.count ∙ c.ranks.ensures.ranks) same c.in_ok-desks.ensures.one_opening (rw c.ranks.ensures.ranks at c.in_ok-desks.ensures.new) ranks in
    record {
      crew = ok_both (λ crew. desks_of crew.items ≡ desks) (λ crew. AreNewRanks p first crew.items) (λ crew. IsCrew p first crew.items) c.pair_up.result (λ crew same ranks. is crew.items same ranks) c.pair_up.ensures.desks c.pair_up.ensures.ranks;
      new = ok_both (λ crew. desks_of crew.items ≡ desks) (λ crew. AreNewRanks p first crew.items) (λ crew. AreNew crew.items) c.pair_up.result (λ crew same ranks. are_new crew.items (is crew.items same ranks).new) c.pair_up.ensures.desks c.pair_up.ensures.ranks;
      lanes = ok_both (λ crew. desks_of crew.items ≡ desks) (λ crew. AreNewRanks p first crew.items) (λ crew. HaveCapacity c.args.capacity crew.items) c.pair_up.result
          (λ crew same ranks. have_capacity c.args.capacity p.ranks crew.items desks (c.in_ok-desks.ensures.count ∙ c.ranks.ensures.ranks) same (rw c.ranks.ensures.ranks at c.in_ok-desks.ensures.new)) c.pair_up.ensures.desks c.pair_up.ensures.ranks;
    }
