use Rattle.std.proofs.Common.{◌≡◌, ◌*◌, ◌/◌, ◌%◌, ◌≤◌, map, vec_len, vec_capacity}
use Rattle.std.specs.List.{range_with_len}
use Rattle.cb_matrix.specs.Values.{empty_matrix}
use Rattle.cb_grid.specs.Pieces.{piece_shape}
use Rattle.cb_plan_vectors.proofs.pieces.empty_pieces.Given as goal

-- the blocks of the ranks so far, and room for all
abbrev pub invariant-loop-rank : goal.invariant-loop-rank
invariant-loop-rank g l = record {
  blocks : l.blocks.items ≡ map (λ r. empty_matrix (piece_shape l.fn.grid.side l.fn.shape (r % l.fn.grid.side) (r / l.fn.grid.side))) (range_with_len 0 l.rank);
  count : vec_len l.blocks ≡ l.rank;
  room : l.fn.grid.side * l.fn.grid.side ≤ vec_capacity l.blocks;
}
