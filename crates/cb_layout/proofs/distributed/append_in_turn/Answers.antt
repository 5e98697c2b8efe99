use Rattle.std.proofs.Common.{◌≡◌, ◌<◌, length, sym, subst, ap, ◌∙◌, arith}
use Rattle.std.proofs.lemmas.List.{get_or_default}
use Rattle.cb_matrix.specs.Sparse.{Sparse, IsMatrix}
use Rattle.cb_matrix.specs.Values.{empty_matrix}
use Rattle.cb_dcsc.specs.Columns.{with_entries}
use Rattle.cb_grid.specs.Blocks.{block_at}
use Rattle.cb_layout.proofs.distributed.append_in_turn.Given as given
use Rattle.cb_layout.proofs.distributed.append_in_turn.Goals.{After-index_mut-in-loop-rank}
use Rattle.cb_layout.proofs.distributed.append_in_turn.Goals as goal

-- the two blocks of the rank
own : (g : given.Over) (c : After-index_mut-in-loop-rank g) →
    let n = c.loop-rank.rank in
    (n < length c.args.others.now.items) × (c.index_mut.result.now ≡ block_at c.args.blocks.now.items n) × (c.index_mut-in-loop-rank.result.now ≡ block_at c.args.others.now.items n)
own g c =
    let none : Sparse = empty_matrix (record { rows = 0; cols = 0 }) in
    let n = c.loop-rank.rank in
    let below = c.loop-rank-test.true in
    let count = c.loop-rank.invariant.count in
    let count' = c.loop-rank.invariant.others in
    let same = c.requires.count in
    let end = c.loop-rank.auto.rank-end in
    let total = c.len-rank-end.ensures in
    let here : n < length c.loop-rank.blocks.items = omega arith in
    let there : n < length c.loop-rank.others.items = omega arith in (
      omega arith,
      c.index_mut.ensures.value ∙ get_or_default c.loop-rank.blocks.items n _ none here ∙ c.loop-rank.invariant.left n (omega arith),
      c.index_mut-in-loop-rank.ensures.value ∙ get_or_default c.loop-rank.others.items n _ none there ∙ c.loop-rank.invariant.left_others n (omega arith),
    )

pub append-requires : goal.append-requires
append-requires g c =
    let n = c.loop-rank.rank in
    let own = own g (goal.at.append-requires g c).After-index_mut-in-loop-rank in
    record {
      shape = ap (λ (m : Sparse). m.shape) own.2 ∙ c.requires.shapes n own.0 ∙ sym (ap (λ (m : Sparse). m.shape) own.1);
      matrix = subst (λ (m : Sparse). IsMatrix g.S.Semiring.arithmetic m) (λ t. with_entries (sym own.1 t) (sym own.2 t).entries) (c.requires.matrices n own.0);
    }
