use Rattle.std.proofs.Common.{◌≡◌, ℕ, ◌+◌, ◌-◌, ◌*◌, ◌<◌, ◌≤◌, ap, sym, ⊎_elim, ◌∙◌, arith}
use Rattle.std.specs.Int.{div_ceil}
use Rattle.std.proofs.lemmas.Bool.{cases_order}
use Rattle.std.proofs.lemmas.Grind.{div_ceil_times}
use Rattle.std.proofs.Math.Nat.{mul-le-mul_left}
use Rattle.cb_matrix.specs.Sparse.{Sparse, Extent}
use Rattle.cb_grid.specs.Parts.{part_length}
use Rattle.cb_grid.specs.Blocks.{block_at}
use Rattle.cb_grid.specs.Pieces.{piece_start, piece_shape}
use Rattle.cb_plan_tests.proofs.layout.turned.Goals as goal

only_multiple : (q b d : ℕ) → 0 < q → d * q ≤ b * q → b * q < d * q + q → b ≡ d
only_multiple q b d pos low high =
    ⊎_elim
    (λ (p : b ≡ d). p)
    (⊎_elim
    (λ (l : b < d). let m : q * (b + 1) ≤ q * d = mul-le-mul_left q (let k : b + 1 ≤ d = omega arith in k) in absurd (omega arith))
    (λ (l : d < b). let m : q * (d + 1) ≤ q * b = mul-le-mul_left q (let k : d + 1 ≤ b = omega arith in k) in absurd (omega arith)))
    (cases_order b d)

-- on side q each piece of q times q rows has one row
one_row : (q i t : ℕ) → i < q → t < q → part_length q (part_length q (q * q) i) t ≡ 1
one_row q i t l k =
    let pos : 0 < q = omega arith in
    let square = div_ceil_times (q * q) q pos in
    let whole : div_ceil (q * q) q ≡ q = only_multiple q (div_ceil (q * q) q) q pos square.0 square.1 in
    let below : q * (i + 1) ≤ q * q = mul-le-mul_left q (let n : i + 1 ≤ q = omega arith in n) in
    let part : part_length q (q * q) i ≡ q = rw whole (omega arith) in
    let line = div_ceil_times q q pos in
    let one : div_ceil q q ≡ 1 = only_multiple q (div_ceil q q) 1 pos (omega arith) (omega arith) in
    let piece : part_length q q t ≡ 1 = rw one (omega arith) in
    ap (λ n. part_length q n t) part ∙ piece

same_length : (q d i t : ℕ) → piece_start q d i (t + 1) - piece_start q d i t ≡ part_length q (part_length q d i) t
same_length q d i t = omega arith

-- so pieces of an input have the shapes of those of a result
turned_shape : (q : ℕ) (shape : Extent) (i t : ℕ) → shape.rows ≡ q * q → i < q → t < q → piece_shape q shape t i ≡ piece_shape q shape i t
turned_shape q shape i t square l k =
    let rows : part_length q (part_length q shape.rows t) i ≡ part_length q (part_length q shape.rows i) t = rw square (one_row q t i k l ∙ sym (one_row q i t l k)) in
    λ n. record { rows = rows n; cols = shape.cols }

pub gather_result-requires-clause-shapes : goal.gather_result-requires-clause-shapes
gather_result-requires-clause-shapes c i t l k =
    let q = c.args.grid.now.side in
    let m = c.args.vector.now in
    let rows = same_length q m.shape.rows t i in
    let cols : m.shape.cols - 0 ≡ m.shape.cols = omega arith in
    ap (λ bs. (block_at bs (i * q + t)).shape) c.deref.ensures.value
    ∙ ap (λ (b : Sparse). b.shape) (c.in_ok-pieces.ensures.pieces i t l k)
    ∙ (λ n. record { rows = rows n; cols = cols n })
    ∙ turned_shape q m.shape i t c.requires.rows l k
    ∙ ap (λ s. piece_shape q s i t) (sym c.shape.ensures.shape)
