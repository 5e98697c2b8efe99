use Rattle.std.proofs.Common.{◌≢◌, ◌/◌, ◌<◌, length, sym, refl, ap, subst, ◌∙◌, arith, get_or}
use Rattle.std.specs.Prelude.{not}
use Rattle.std.proofs.lemmas.Bool.{eq-eqb, false≢true}
use Rattle.std.proofs.lemmas.List.{length-set, get_or_default}
use Rattle.std.proofs.lemmas.List.Elements.{All-get_or, All-set}
use Rattle.cb_semirings.specs.Arithmetic.{IsValue}
use Rattle.cb_product.proofs.RowValues.{nth_product}
use Rattle.cb_product.proofs.DenseRowSums.{entry_added, all_added}
use Rattle.cb_product.proofs.MarkBits.{marked_more, known_mark}
use Rattle.cb_product.proofs.sparse_accumulator.add_entries.Goals as goal

pub loop-n-init : goal.loop-n-init
loop-n-init g c = record { long = refl; accumulator = c.requires.accumulator; groups = λ k free. refl; sums = λ i l. refl }

pub add-requires-clause-left_is_value : goal.add-requires-clause-left_is_value
add-requires-clause-left_is_value g c =
    let inv = c.loop-n.invariant in
    let lr = All-get_or (λ i. i < length c.args.sums.now) c.args.rows.now c.loop-n.n 0 c.loop-n-test.true c.requires.inside in
    let long = inv.long in
    All-get_or (IsValue g.S.Semiring.arithmetic) c.loop-n.sums _ 0 (omega arith) inv.accumulator.values

pub mark_row-requires-clause-known : goal.mark_row-requires-clause-known
mark_row-requires-clause-known g c = λ known.
    let inv = c.loop-n.invariant in
    let lr = All-get_or (λ i. i < length c.args.sums.now) c.args.rows.now c.loop-n.n 0 c.loop-n-test.true c.requires.inside in
    let long = inv.long in
    let same = get_or_default c.loop-n.sums (get_or c.args.rows.now c.loop-n.n 0) g.S.Semiring.arithmetic.zero 0 (omega arith) in
    known_mark g.S.Semiring.arithmetic.zero c.loop-n.sums c.loop-n.marks c.loop-n.groups inv.accumulator.marked (get_or c.args.rows.now c.loop-n.n 0) (λ e. false≢true (sym (ap not (eq-eqb _ c.zero.result (sym same ∙ e ∙ sym c.zero.ensures))) ∙ known))

pub mark_row-requires-clause-room : goal.mark_row-requires-clause-room
mark_row-requires-clause-room g c =
    let inv = c.loop-n.invariant in
    let lr = All-get_or (λ i. i < length c.args.sums.now) c.args.rows.now c.loop-n.n 0 c.loop-n-test.true c.requires.inside in
    let long = inv.long in
    let room = inv.accumulator.marked.room in
    omega arith

pub mark_row-requires-clause-groups_room : goal.mark_row-requires-clause-groups_room
mark_row-requires-clause-groups_room g c =
    let inv = c.loop-n.invariant in
    let lr = All-get_or (λ i. i < length c.args.sums.now) c.args.rows.now c.loop-n.n 0 c.loop-n-test.true c.requires.inside in
    let long = inv.long in
    let room = inv.accumulator.marked.room in
    let groups_room = inv.accumulator.marked.groups_room in
    omega arith

pub mark_row-requires-clause-no_group : goal.mark_row-requires-clause-no_group
mark_row-requires-clause-no_group g c = c.loop-n.invariant.accumulator.marked.no_group

pub loop-n-preserved : goal.loop-n-preserved
loop-n-preserved g c =
    let s = g.S.Semiring.arithmetic in
    let laws = g.met.S.Semiring.is_semiring in
    let inv = c.loop-n.invariant in
    let r = c.requires in
    let rows = c.args.rows.now in
    let values = c.args.values.now in
    let k = c.args.scale in
    let n = c.loop-n.n in
    let l = c.loop-n-test.true in
    let before = All-get_or (λ i. i < length c.args.sums.now) rows n 0 l r.inside in
    let long = inv.long in
    let lr : get_or rows n 0 < length c.loop-n.sums = omega arith in
    let product = nth_product s laws rows values k r.lengths r.values r.scale n l in
    rw (c.add.ensures, c.scaled.ensures) (record {
      long = length-set c.loop-n.sums _ _ ∙ inv.long;
      accumulator = record {
        values = All-set (IsValue s) c.loop-n.sums _ _ (laws.add_value _ _ (All-get_or (IsValue s) c.loop-n.sums _ 0 lr inv.accumulator.values) product) inv.accumulator.values;
        marked = marked_more s.zero c.loop-n.sums c.loop-n.marks c.loop-n.groups _ _ (get_or rows n 0) _ inv.accumulator.marked lr c.mark_row.ensures.length c.mark_row.ensures.here c.mark_row.ensures.others c.mark_row.ensures.words c.mark_row.ensures.groups_length c.mark_row.ensures.group c.mark_row.ensures.other_groups;
      };
      groups = λ j free. c.mark_row.ensures.group_words j (let ne = All-get_or (λ i. i / 4096 ≢ j) rows n 0 l free in λ e. ne (sym e)) ∙ inv.groups j free;
      sums = λ i li. entry_added s laws rows values k r.lengths r.values r.scale r.order n c.loop-n.sums _ l inv.accumulator.values lr inv.sums i (subst (λ m. i < m) (length-set c.loop-n.sums _ _) li);
    })

pub returns-clause-sums : goal.returns-clause-sums
returns-clause-sums g c =
    let inv = c.loop-n.invariant in
    let r = c.requires in
    λ i li. all_added g.S.Semiring.arithmetic g.met.S.Semiring.is_semiring c.args.rows.now c.args.values.now c.args.scale r.lengths r.values r.scale r.order c.loop-n.n c.loop-n.sums _ c.loop-n-test.false inv.accumulator.values inv.sums i (subst (λ m. i < m) (sym inv.long) li)
