use Rattle.std.proofs.Common.{◌≡◌, ◌*◌, ◌/◌, ◌%◌, ◌≤◌, map, vec_len, vec_capacity}
use Rattle.std.specs.List.{range_with_len}
use Rattle.cb_matrix.specs.Values.{empty_matrix}
use Rattle.cb_grid.specs.Parts.{part_shape}
use Rattle.cb_grid.proofs.Grid.empty_blocks.Given as goal

-- the blocks of the ranks so far, and room for all
abbrev pub invariant-loop-rank : goal.invariant-loop-rank
invariant-loop-rank g l = record {
  blocks : l.blocks.items ≡ map (λ r. empty_matrix (part_shape l.fn.self.side l.fn.shape (r / l.fn.self.side) (r % l.fn.self.side))) (range_with_len 0 l.rank);
  count : vec_len l.blocks ≡ l.rank;
  room : l.fn.self.side * l.fn.self.side ≤ vec_capacity l.blocks;
}
