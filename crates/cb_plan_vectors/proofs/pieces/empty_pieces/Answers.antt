use Rattle.std.proofs.Common.{◌/◌, ◌%◌, ◌++◌, [], ◌∷◌, ap, sym, ◌∙◌, arith}
use Rattle.std.proofs.lemmas.List.FromFn.{map-range_with_len_more}
use Rattle.cb_matrix.specs.Values.{empty_matrix}
use Rattle.cb_grid.specs.Pieces.{piece_shape}
use Rattle.cb_plan_vectors.proofs.pieces.empty_pieces.Goals as goal

pub loop-rank-preserved : goal.loop-rank-preserved
loop-rank-preserved g c =
    let q = c.args.grid.now.side in
    let r = c.loop-rank.rank in
    record {
      blocks = c.push_reserved.ensures.items
          ∙ (λ t. c.loop-rank.invariant.blocks t ++ (c.empty.ensures.value ∙ ap empty_matrix c.input_shape-piece.ensures) t ∷ [])
          ∙ sym (map-range_with_len_more (λ n. empty_matrix (piece_shape q c.args.shape (n % q) (n / q))) 0 r r (omega arith));
      count = omega (arith, c.push_reserved.ensures.len, c.loop-rank.invariant.count);
      room = omega (arith, c.push_reserved.ensures.capacity, c.loop-rank.invariant.room);
    }
