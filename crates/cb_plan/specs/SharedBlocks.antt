-- Blocks that are owned or lent.
use Rattle.std.specs.Arc.{arc_value}
use Rattle.cb_matrix.specs.Sparse.{Sparse}
use Rattle.cb_plan.specs.declared.shared_blocks.Held.{Held}
use Rattle.cb_plan.specs.declared.shared_blocks.Held.TheVariants as held_is

-- the block, whoever owns it
abbrev pub shared_block : {S : Type 0} → Held S → Sparse
shared_block (held_is.Own block) = block
shared_block (held_is.Lent shared) = arc_value shared
