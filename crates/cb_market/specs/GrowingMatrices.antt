-- A matrix over a grid, whose only block may stand by itself.
use Rattle.cb_layout.specs.Distributed.{Distributed}
use Rattle.cb_market.specs.declared.growing_matrices.Held.{Held}
use Rattle.cb_market.specs.declared.growing_matrices.Held.TheVariants as held_is

-- the matrix over its grid
abbrev pub distributed : {S : Type 0} → Held S → Distributed
distributed (held_is.One block) = record { side = 1; matrix = block }
distributed (held_is.Each blocks) = blocks
