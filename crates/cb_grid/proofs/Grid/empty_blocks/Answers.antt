use Rattle.std.proofs.Common.{◌/◌, ◌%◌, ◌++◌, [], ◌∷◌, ap, sym, ◌∙◌, arith}
use Rattle.std.proofs.lemmas.List.FromFn.{map-range_with_len_more}
use Rattle.cb_matrix.specs.Values.{empty_matrix}
use Rattle.cb_grid.specs.Parts.{part_shape}
use Rattle.cb_grid.proofs.Grid.empty_blocks.Goals as goal

pub loop-rank-preserved : goal.loop-rank-preserved
loop-rank-preserved g c =
    let q = c.args.self.now.side in
    let r = c.loop-rank.rank in
    record {
      blocks = c.push_reserved.ensures.items
          ∙ (λ t. c.loop-rank.invariant.blocks t ++ (c.in_ok-roomy.ensures ∙ ap empty_matrix c.block_shape-part.ensures) t ∷ [])
          ∙ sym (map-range_with_len_more (λ n. empty_matrix (part_shape q c.args.shape (n / q) (n % q))) 0 r r (omega arith));
      count = omega (arith, c.push_reserved.ensures.len, c.loop-rank.invariant.count);
      room = omega (arith, c.push_reserved.ensures.capacity, c.loop-rank.invariant.room);
    }
