use Rattle.std.proofs.Common.{◌≡◌, ◌+◌, ◌<◌, List, ◌++◌, length, ap, sym, subst, ◌∙◌, arith, append-nil, append_assoc, length-append}
use Rattle.std.proofs.lemmas.List.Elements.{All-weaker}
use Rattle.cb_matrix.specs.declared.Entry.{Entry}
use Rattle.cb_matrix.specs.Sparse.{Sparse, IsMatrix}
use Rattle.cb_grid.specs.Blocks.{block_of, glued_blocks}
use Rattle.cb_layout.specs.Distributed.{AreBlocks}
use Rattle.cb_layout.specs.Segments.{shifted}
use Rattle.cb_layout.proofs.ShiftedColumns.{length-shifted}
use Rattle.cb_layout.proofs.BlockColumns.{whole_is_matrix, blocks_are_cuts}
use Rattle.cb_layout.proofs.glue.gather.Given as given
use Rattle.cb_layout.proofs.glue.gather.Goals.{After-stored, In-None}
use Rattle.cb_layout.proofs.glue.gather.Goals as goal

are_blocks : (g : given.Over) (c : After-stored g) → AreBlocks g.S.Semiring.arithmetic c.args.grid.now.side c.args.shape c.args.blocks.now
are_blocks g c =
    let side = c.side.ensures.value in
    let some = c.side.ensures.some in
    let few = c.side.ensures.limit in
    record { some = omega arith; few = omega arith; count = c.requires.count; shapes = c.requires.shapes; matrices = c.stored.ensures.matrices }

-- the entries of all segments are those of the whole matrix
all_entries : (g : given.Over) (c : In-None g) → c.loop-segment.entries.items ≡ (glued_blocks g.S.Semiring.arithmetic c.args.grid.now.side c.args.shape c.args.blocks.now).entries
all_entries g c =
    sym (append-nil c.loop-segment.entries.items) ∙ ap (λ es. c.loop-segment.entries.items ++ es) (sym c.in-None.ensures.none.0) ∙ c.loop-segment.invariant

pub new-segments-requires : goal.new-segments-requires
new-segments-requires g c = are_blocks g (goal.at.new-segments-requires g c).After-stored

pub append_segment-requires-clause-lengths : goal.append_segment-requires-clause-lengths
append_segment-requires-clause-lengths g c = c.in-Some.ensures.lengths

pub append_segment-requires-clause-fits : goal.append_segment-requires-clause-fits
append_segment-requires-clause-fits g c =
    let x = c.in-Some.segment in
    All-weaker (λ i. x.top + i < 2147483647) (λ i. x.top + i < 4294967296) (λ i h. omega arith) x.rows.now c.in-Some.ensures.inside.1

pub loop-segment-preserved : goal.loop-segment-preserved
loop-segment-preserved g c =
    let x = c.in-Some.segment in
    let so_far = c.loop-segment.entries.items in
    let front : List Entry = shifted x.top x.column x.rows.now x.values.now in
    ap (λ es. es ++ c.next_segment.new.self) c.in_ok-append_segment-in-Some.ensures.ok
    ∙ append_assoc so_far front c.next_segment.new.self
    ∙ ap (λ es. so_far ++ es) (sym c.in-Some.ensures.some)
    ∙ c.loop-segment.invariant

pub loop-segment-smaller : goal.loop-segment-smaller
loop-segment-smaller g c =
    let x = c.in-Some.segment in
    let front : List Entry = shifted x.top x.column x.rows.now x.values.now in
    let all = ap length c.in-Some.ensures.some ∙ length-append front c.next_segment.new.self in
    let own = length-shifted x.top x.column x.rows.now x.values.now c.in-Some.ensures.lengths in
    let some = c.in-Some.ensures.entries in
    omega arith

pub from_ordered-requires : goal.from_ordered-requires
from_ordered-requires g c =
    subst (λ es. IsMatrix g.S.Semiring.arithmetic (record { shape = c.args.shape; entries = es })) (sym (all_entries g (goal.at.from_ordered-requires g c).In-None))
    (whole_is_matrix _ g.met.S.Semiring.is_semiring _ _ _ (are_blocks g (goal.at.from_ordered-requires g c).After-stored))

pub returns-clause-glued : goal.returns-clause-glued
returns-clause-glued g c =
    c.from_ordered.ensures ∙ ap (λ (es : List Entry). record { shape = c.args.shape; entries = es }) (all_entries g (goal.at.returns-clause-glued g c).In-None)

pub returns-clause-cuts : goal.returns-clause-cuts
returns-clause-cuts g c i j l k =
    let whole = c.from_ordered.ensures ∙ ap (λ (es : List Entry). record { shape = c.args.shape; entries = es }) (all_entries g (goal.at.returns-clause-cuts g c).In-None) in
    blocks_are_cuts _ g.met.S.Semiring.is_semiring _ _ _ (are_blocks g (goal.at.returns-clause-cuts g c).After-stored) i j l k
    ∙ ap (λ (m : Sparse). block_of g.S.Semiring.arithmetic c.args.grid.now.side m i j) (sym whole)
