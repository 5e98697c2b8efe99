use Rattle.std.proofs.Common.{◌≡◌}
use Rattle.cb_searches.specs.Searches.{IsSearch}
use Rattle.cb_rank_operations.specs.Searched.{OfEachSearch}
use Rattle.cb_rank_operations.proofs.walks.search_on.Given as goal

-- the rounds are those of a search, and the matrix stays as it was
abbrev pub invariant-loop-round : goal.invariant-loop-round
invariant-loop-round g l = record {
  search : OfEachSearch l.fn.edges.matrix l.fn.begun (λ a source. IsSearch a source l._round l.search);
  turned : l.turned ≡ l.fn.edges;
}
