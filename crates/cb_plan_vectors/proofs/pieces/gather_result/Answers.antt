use Rattle.std.proofs.Common.{◌≡◌, ◌+◌, ◌*◌, ◌/◌, ◌%◌, ◌<◌, length, ap, sym, subst, ◌∙◌, arith}
use Rattle.std.specs.Prelude.{All}
use Rattle.std.proofs.lemmas.List.{get_or_read, length-map}
use Rattle.std.proofs.lemmas.List.Elements.{All-weaker}
use Rattle.cb_matrix.specs.declared.Entry.{Entry}
use Rattle.cb_matrix.specs.Sparse.{Sparse}
use Rattle.cb_matrix.specs.Values.{empty_matrix}
use Rattle.cb_grid.specs.Blocks.{block_at}
use Rattle.cb_grid.specs.Pieces.{piece_start, piece_of}
use Rattle.cb_plan_vectors.specs.Vectors.{glued_pieces}
use Rattle.cb_plan_vectors.proofs.VectorPieces.{piece_fits, piece_more, pieces_all, pieces_are_cuts, some_side}
use Rattle.cb_plan_vectors.proofs.pieces.gather_result.Given as given
use Rattle.cb_plan_vectors.proofs.pieces.gather_result.Goals.{After-result_start-top, In_ok-vector}
use Rattle.cb_plan_vectors.proofs.pieces.gather_result.Goals as goal

-- the rank, its block and the first row of its piece
piece : (g : given.Over) (c : After-result_start-top g) →
    let q = c.args.grid.now.side in
    let r = c.loop-rank.rank in
    (r < q * q) × (c.index-blocks-from.result ≡ block_at c.args.blocks.now r) × (c.result_start-top.result ≡ piece_start q c.args.shape.rows (r / q) (r % q))
piece g c =
    let q = c.args.grid.now.side in
    let bs = c.args.blocks.now in
    let r = c.loop-rank.rank in
    let test = c.loop-rank-test.true in
    let ranks = c.ranks-rank-end.ensures.value in
    let known : r < q * q = omega arith in
    let rank : c.from.result ≡ r = c.from.ensures in
    let below : c.from.result < length bs = let k = c.requires.count in omega arith in (
      known,
      get_or_read bs c.from.result c.index-blocks-from.result below c.index-blocks-from.is (empty_matrix (record { rows = 0; cols = 0 })) ∙ ap (block_at bs) rank,
      c.result_start-top.ensures.value ∙ ap (λ d. piece_start q d (r / q) (r % q)) c.rows.ensures.value,
    )

pub append_segment-requires-clause-fits : goal.append_segment-requires-clause-fits
append_segment-requires-clause-fits g c =
    let q = c.args.grid.now.side in
    let shape = c.args.shape in
    let r = c.loop-rank.rank in
    let own = piece g (goal.at.append_segment-requires-clause-fits g c).After-result_start-top in
    let start = own.2 in
    let height = c.rows.ensures.value in
    let limit = c.rows.ensures.limit in
    subst (λ xs. All (λ x. c.result_start-top.result + x < 4294967296) xs) (sym (rw own.1 at c.row_numbers.ensures))
    (All-weaker (λ x. piece_start q shape.rows (r / q) (r % q) + x < shape.rows) (λ x. c.result_start-top.result + x < 4294967296) (λ x h. omega arith) _
    (piece_fits g.S.Semiring.arithmetic q (some_side q r own.0) shape c.requires.column c.args.blocks.now c.requires.count c.requires.shapes c.stored.ensures.matrices r own.0))

pub loop-rank-preserved : goal.loop-rank-preserved
loop-rank-preserved g c =
    let q = c.args.grid.now.side in
    let r = c.loop-rank.rank in
    let own = piece g (goal.at.loop-rank-preserved g c).After-result_start-top in
    piece_more g.S.Semiring.arithmetic q (some_side q r own.0) c.args.shape c.requires.column c.args.blocks.now c.requires.count c.requires.shapes c.stored.ensures.matrices r own.0 c.loop-rank.entries.items c.append_segment.new.entries.items
    c.result_start-top.result own.2 (rw (rw own.1 at c.row_numbers.ensures, rw own.1 at c.values.ensures) at c.in_ok-append_segment.ensures.ok) c.loop-rank.invariant

-- the vector is the one that the pieces make
whole : (g : given.Over) (c : In_ok-vector g) →
    let q = c.args.grid.now.side in
    (0 < q) × (c.in_ok-vector.vector ≡ glued_pieces g.S.Semiring.arithmetic q c.args.shape (λ i t. block_at c.args.blocks.now (i * q + t)))
whole g c =
    let q = c.args.grid.now.side in
    let ranks = c.ranks-rank-end.ensures.value in
    let some = c.ranks-rank-end.ensures.some in
    let last = c.loop-rank-test.false in
    let within = c.loop-rank.auto.rank-end in
    let end : c.loop-rank.rank ≡ q * q = omega arith in
    let known : 0 < q * q = omega arith in
    let pos : 0 < q = some_side q 0 known in (
      pos,
      c.in_ok-vector.ensures
          ∙ pieces_all g.S.Semiring.arithmetic q pos c.args.shape c.requires.column c.args.blocks.now c.requires.count c.requires.shapes c.stored.ensures.matrices g.met.S.Semiring.is_semiring c.loop-rank.entries.items c.loop-rank.rank end c.loop-rank.invariant,
    )

pub returns-clause-glued : goal.returns-clause-glued
returns-clause-glued g c = (whole g (goal.at.returns-clause-glued g c).In_ok-vector).1

pub returns-clause-cuts : goal.returns-clause-cuts
returns-clause-cuts g c i t l k =
    let s = g.S.Semiring.arithmetic in
    let q = c.args.grid.now.side in
    let is = whole g (goal.at.returns-clause-cuts g c).In_ok-vector in
    pieces_are_cuts s q is.0 c.args.shape c.requires.column c.args.blocks.now c.requires.count c.requires.shapes c.stored.ensures.matrices g.met.S.Semiring.is_semiring i t l k
    ∙ ap (λ (m : Sparse). piece_of s q m i t) (sym is.1)

pub append_segment-requires-clause-lengths : goal.append_segment-requires-clause-lengths
append_segment-requires-clause-lengths g c =
    let es = c.index-blocks-from.result.entries in
    ap length c.values.ensures ∙ length-map es (λ (e : Entry). e.value) ∙ sym (length-map es (λ (e : Entry). e.row)) ∙ sym (ap length c.row_numbers.ensures)

pub collect-requires-clause-inside : goal.collect-requires-clause-inside
collect-requires-clause-inside g c = c.loop-rank.invariant.inside

pub collect-requires-clause-values : goal.collect-requires-clause-values
collect-requires-clause-values g c = c.loop-rank.invariant.are_values
