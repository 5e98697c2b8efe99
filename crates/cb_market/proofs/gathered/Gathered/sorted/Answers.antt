use Rattle.std.proofs.lemmas.Bool.{false≢true}
use Rattle.std.proofs.lemmas.List.Sorted.{All-permutation}
use Rattle.cb_semirings.specs.Arithmetic.{IsValue}
use Rattle.cb_matrix.specs.Sparse.{IsInside}
use Rattle.cb_market.proofs.gathered.Gathered.sorted.Goals as goal

pub invariant_of-result : goal.invariant_of-result
invariant_of-result g c =
    let a = c.self.invariant in
    record {
      in_blocks = λ up. absurd (false≢true up);
      in_list = λ _. a.in_list c.if-self.false;
      above = a.above;
      below = a.below;
      inside = All-permutation (IsInside c.self.inside.blocks.matrix.shape) _ _ c.in_ok-list.ensures.permutation a.inside;
      values = All-permutation (λ e. IsValue g.S.Semiring.arithmetic e.value) _ _ c.in_ok-list.ensures.permutation a.values;
    }
