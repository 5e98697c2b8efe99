use Rattle.std.proofs.Common.{◌≡◌, ◌+◌, ◌≤◌, ◌++◌, length, vec_len, vec_capacity}
use Rattle.cb_layout.proofs.distributed.recast_blocks.Given as goal

-- the blocks so far, and those that are left, for which there is room
abbrev pub invariant-loop-block : goal.invariant-loop-block
invariant-loop-block g l =
    let rest = l.block-iterator.rest.items in record {
      blocks : l.recast.items ++ rest ≡ l.fn.blocks.items;
      room : vec_len l.recast + length rest ≤ vec_capacity l.recast;
    }
