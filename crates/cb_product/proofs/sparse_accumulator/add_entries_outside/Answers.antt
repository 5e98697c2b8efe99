use Rattle.std.proofs.Common.{◌≡◌, ◌≢◌, ◌/◌, ◌<◌, true, false, length, sym, refl, ap, subst, ◌∙◌, arith, get_or}
use Rattle.std.specs.Prelude.{◌==◌, not}
use Rattle.std.proofs.lemmas.Bool.{eq-eqb, ne_eqb, false≢true}
use Rattle.std.proofs.lemmas.List.{length-set, get_or_default}
use Rattle.std.proofs.lemmas.List.Elements.{All-get_or, All-set}
use Rattle.cb_semirings.specs.Arithmetic.{IsValue}
use Rattle.cb_product.specs.Marks.{mark_of}
use Rattle.cb_product.proofs.RowValues.{nth_product}
use Rattle.cb_product.proofs.MarkBits.{marked_more, known_mark}
use Rattle.cb_product.proofs.MarkedRows.{outside_added, outside_skipped, outside_all_added}
use Rattle.cb_product.proofs.sparse_accumulator.add_entries_outside.Goals as goal

pub loop-n-init : goal.loop-n-init
loop-n-init g c = record { long = refl; accumulator = c.requires.accumulator; groups = λ k free. refl; sums = λ i l. refl }

pub is_marked-requires : goal.is_marked-requires
is_marked-requires g c =
    let lr = All-get_or (λ i. i < length c.args.sums.now) c.args.rows.now c.loop-n.n 0 c.loop-n-test.true c.requires.inside in
    let room = c.requires.room in
    omega arith

pub add-requires-clause-left_is_value : goal.add-requires-clause-left_is_value
add-requires-clause-left_is_value g c =
    let inv = c.loop-n.invariant in
    let lr = All-get_or (λ i. i < length c.args.sums.now) c.args.rows.now c.loop-n.n 0 c.loop-n-test.true c.requires.inside in
    let long = inv.long in
    All-get_or (IsValue g.S.Semiring.arithmetic) c.loop-n.sums _ 0 (omega arith) inv.accumulator.values

pub mark_row-requires-clause-known : goal.mark_row-requires-clause-known
mark_row-requires-clause-known g c = λ known.
    let inv = c.loop-n.invariant in
    let lr = All-get_or (λ i. i < length c.args.sums.now) c.args.rows.now c.loop-n.n 0 c.loop-n-test.true c.requires.inside in
    let long = inv.long in
    let same = get_or_default c.loop-n.sums (get_or c.args.rows.now c.loop-n.n 0) g.S.Semiring.arithmetic.zero 0 (omega arith) in
    known_mark g.S.Semiring.arithmetic.zero c.loop-n.sums c.loop-n.marks c.loop-n.groups inv.accumulator.marked (get_or c.args.rows.now c.loop-n.n 0) (λ e. false≢true (sym (ap not (eq-eqb _ c.zero.result (sym same ∙ e ∙ sym c.zero.ensures))) ∙ known))

pub mark_row-requires-clause-room : goal.mark_row-requires-clause-room
mark_row-requires-clause-room g c =
    let inv = c.loop-n.invariant in
    let lr = All-get_or (λ i. i < length c.args.sums.now) c.args.rows.now c.loop-n.n 0 c.loop-n-test.true c.requires.inside in
    let long = inv.long in
    let room = inv.accumulator.marked.room in
    omega arith

pub mark_row-requires-clause-groups_room : goal.mark_row-requires-clause-groups_room
mark_row-requires-clause-groups_room g c =
    let inv = c.loop-n.invariant in
    let lr = All-get_or (λ i. i < length c.args.sums.now) c.args.rows.now c.loop-n.n 0 c.loop-n-test.true c.requires.inside in
    let long = inv.long in
    let room = inv.accumulator.marked.room in
    let groups_room = inv.accumulator.marked.groups_room in
    omega arith

pub mark_row-requires-clause-no_group : goal.mark_row-requires-clause-no_group
mark_row-requires-clause-no_group g c = c.loop-n.invariant.accumulator.marked.no_group

pub returns-clause-sums : goal.returns-clause-sums
returns-clause-sums g c =
    let inv = c.loop-n.invariant in
    let r = c.requires in
    λ i li. outside_all_added g.S.Semiring.arithmetic g.met.S.Semiring.is_semiring c.args.rows.now c.args.values.now c.args.scale r.lengths r.values r.scale r.order (λ k. mark_of c.args.excluded.now k == 1) c.loop-n.n c.loop-n.sums _ c.loop-n-test.false inv.accumulator.values inv.sums i (subst (λ m. i < m) (sym inv.long) li)

pub loop-n-preserved-then-is_marked : goal.loop-n-preserved-then-is_marked
loop-n-preserved-then-is_marked g c =
    let inv = c.loop-n.invariant in
    let r = c.requires in
    let taken : (mark_of c.args.excluded.now (get_or c.args.rows.now c.loop-n.n 0) == 1) ≡ true = eq-eqb _ 1 (c.is_marked.ensures.0 c.if-is_marked.true) in
    record {
      long = inv.long;
      accumulator = inv.accumulator;
      groups = inv.groups;
      sums = outside_skipped g.S.Semiring.arithmetic g.met.S.Semiring.is_semiring c.args.rows.now c.args.values.now c.args.scale r.lengths r.values r.scale r.order (λ m. mark_of c.args.excluded.now m == 1) c.loop-n.n c.loop-n.sums _ c.loop-n-test.true taken inv.sums;
    }

pub loop-n-preserved : goal.loop-n-preserved
loop-n-preserved g c =
    let s = g.S.Semiring.arithmetic in
    let laws = g.met.S.Semiring.is_semiring in
    let inv = c.loop-n.invariant in
    let r = c.requires in
    let rows = c.args.rows.now in
    let values = c.args.values.now in
    let k = c.args.scale in
    let n = c.loop-n.n in
    let l = c.loop-n-test.true in
    let before = All-get_or (λ i. i < length c.args.sums.now) rows n 0 l r.inside in
    let long = inv.long in
    let lr : get_or rows n 0 < length c.loop-n.sums = omega arith in
    let product = nth_product s laws rows values k r.lengths r.values r.scale n l in
    let free : (mark_of c.args.excluded.now (get_or rows n 0) == 1) ≡ false = ne_eqb _ 1 (λ e. false≢true (sym c.if-is_marked.false ∙ c.is_marked.ensures.1 e)) in
    rw (c.add.ensures, c.scaled.ensures) (record {
      long = length-set c.loop-n.sums _ _ ∙ inv.long;
      accumulator = record {
        values = All-set (IsValue s) c.loop-n.sums _ _ (laws.add_value _ _ (All-get_or (IsValue s) c.loop-n.sums _ 0 lr inv.accumulator.values) product) inv.accumulator.values;
        marked = marked_more s.zero c.loop-n.sums c.loop-n.marks c.loop-n.groups _ _ (get_or rows n 0) _ inv.accumulator.marked lr c.mark_row.ensures.length c.mark_row.ensures.here c.mark_row.ensures.others c.mark_row.ensures.words c.mark_row.ensures.groups_length c.mark_row.ensures.group c.mark_row.ensures.other_groups;
      };
      groups = λ j free. c.mark_row.ensures.group_words j (let ne = All-get_or (λ i. i / 4096 ≢ j) rows n 0 l free in λ e. ne (sym e)) ∙ inv.groups j free;
      sums = λ i li. outside_added s laws rows values k r.lengths r.values r.scale r.order (λ m. mark_of c.args.excluded.now m == 1) n c.loop-n.sums _ l free inv.accumulator.values lr inv.sums i (subst (λ m. i < m) (length-set c.loop-n.sums _ _) li);
    })

pub bounds-sums-row : goal.bounds-sums-row
bounds-sums-row g c =
    let lr = All-get_or (λ i. i < length c.args.sums.now) c.args.rows.now c.loop-n.n 0 c.loop-n-test.true c.requires.inside in
    let long = c.loop-n.invariant.long in
    omega arith

pub bounds-values-n : goal.bounds-values-n
bounds-values-n g c =
    let l = c.loop-n-test.true in
    let e = c.requires.lengths in
    omega arith

pub scaled-requires-clause-value : goal.scaled-requires-clause-value
scaled-requires-clause-value g c = let l = c.loop-n-test.true in let e = c.requires.lengths in c.requires.values c.loop-n.n 0 (omega arith)

pub scaled-requires-clause-scale : goal.scaled-requires-clause-scale
scaled-requires-clause-scale g c = c.requires.scale

pub add-requires-clause-right_is_value : goal.add-requires-clause-right_is_value
add-requires-clause-right_is_value g c =
    let r = c.requires in
    rw c.scaled.ensures (nth_product g.S.Semiring.arithmetic g.met.S.Semiring.is_semiring c.args.rows.now c.args.values.now c.args.scale r.lengths r.values r.scale c.loop-n.n c.loop-n-test.true)

pub returns-clause-accumulator : goal.returns-clause-accumulator
returns-clause-accumulator g c = c.loop-n.invariant.accumulator

pub returns-clause-length : goal.returns-clause-length
returns-clause-length g c = c.loop-n.invariant.long
