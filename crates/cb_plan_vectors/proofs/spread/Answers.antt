use Rattle.std.proofs.Common.{◌≡◌, ℕ, ◌+◌, ◌*◌, ◌<◌, List, length, replicate, ap, subst, ◌∙◌, arith}
use Rattle.std.proofs.lemmas.List.{length-replicate}
use Rattle.cb_matrix.specs.Sparse.{Sparse}
use Rattle.cb_grid.specs.Blocks.{block_at, block_of}
use Rattle.cb_plan_vectors.proofs.VectorPieces.{some_side}
use Rattle.cb_plan.specs.declared.stores.Slot.{Slot}
use Rattle.cb_plan.specs.declared.stores.Slot.TheVariants as slot_is
use Rattle.cb_plan_slots.specs.Slots.{Filled}
use Rattle.cb_plan_vectors.proofs.SpreadProducts.{spread_filled}
use Rattle.cb_plan_vectors.proofs.spread.Goals as goal

pub returns : goal.returns
returns g c =
    let s = g.S.Semiring.arithmetic in
    let q = c.args.grid.now.side in
    let a = c.args.matrix.matrix in
    let row : List (Slot Sparse) = replicate 256 slot_is.Empty in
    let first = c.in_ok-stores.stores.items in
    let second = c.fill.new.stores.items in
    let third = c.fill-2.new.stores.items in
    let blocks = c.into_blocks.result.items in
    let pieces = c.in_ok-pieces.pieces.items in
    let pos : 0 < q = some_side q 0 (let e = c.ranks.ensures.value in let l = c.ranks.ensures.some in omega arith) in
    let blank : first ≡ replicate (q * q) row = c.in_ok-stores.ensures ∙ ap (λ n. replicate n row) c.ranks.ensures.value in
    let ranks : length first ≡ q * q = ap length blank ∙ length-replicate (q * q) row in
    let one : Filled (q * q) 0 (block_at blocks) first second = subst (λ n. Filled n 0 (block_at blocks) first second) ranks c.fill.ensures in
    let two : Filled (q * q) 1 (block_at pieces) second third = subst (λ n. Filled n 1 (block_at pieces) second third) one.table.rows c.fill-2.ensures in
    spread_filled s q a c.args.vector.now first second third blocks pieces pos blank one two
    (subst (λ n. (i j : ℕ) → i < n → j < n → block_at blocks (i * n + j) ≡ block_of s n a i j) c.requires.side c.into_blocks.ensures.blocks)
    c.in_ok-pieces.ensures.pieces
