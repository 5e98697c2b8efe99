use Rattle.std.proofs.Common.{◌≡◌, ◌<◌, ◌≤◌, length, get_or, ap, sym, subst, ◌∙◌, arith}
use Rattle.std.proofs.lemmas.List.{length-map, get_or-map}
use Rattle.std.proofs.lemmas.List.Elements.{All-get_or}
use Rattle.cb_semirings.specs.Arithmetic.{IsValue}
use Rattle.cb_matrix.specs.declared.Entry.{Entry}
use Rattle.cb_dcsc.proofs.Lookup.{all_values}
use Rattle.cb_shares.proofs.SumShares.{no_entry, no_total, total_more}
use Rattle.cb_shares.proofs.sums.total_of.Goals as goal

pub loop-n-init : goal.loop-n-init
loop-n-init g c =
    let s = g.S.Semiring.arithmetic in
    let laws = g.met.S.Semiring.is_semiring in
    record {
      sum = c.zero-sum.ensures ∙ sym (no_total s laws c.args.block.now c.entries_between-from.result.0);
      value = subst (IsValue s) (sym c.zero-sum.ensures) laws.zero_value;
    }

pub add-sum-requires-clause-right_is_value : goal.add-sum-requires-clause-right_is_value
add-sum-requires-clause-right_is_value g c =
    let s = g.S.Semiring.arithmetic in
    let a = c.args.block.now in
    let values = c.values-values.result.now in
    let count : length values ≡ length a.entries = ap length c.values-values.ensures ∙ length-map a.entries (λ (e : Entry). e.value) in
    let below = c.loop-n-test.true in
    let within = c.entries_between-from.ensures.within in
    All-get_or (IsValue s) values c.loop-n.n 0 (omega arith) (all_values s a values c.shape-shape.ensures.matrix c.values-values.ensures)

pub loop-n-preserved : goal.loop-n-preserved
loop-n-preserved g c =
    let s = g.S.Semiring.arithmetic in
    let laws = g.met.S.Semiring.is_semiring in
    let a = c.args.block.now in
    let es = a.entries in
    let n = c.loop-n.n in
    let values = c.values-values.result.now in
    let count : length values ≡ length es = ap length c.values-values.ensures ∙ length-map es (λ (e : Entry). e.value) in
    let below = c.loop-n-test.true in
    let within = c.entries_between-from.ensures.within in
    let l : n < length es = omega arith in
    let is_value : get_or values n 0 ≡ (get_or es n no_entry).value = ap (λ xs. get_or xs n 0) c.values-values.ensures ∙ get_or-map (λ (e : Entry). e.value) es n no_entry 0 l in
    let from : c.entries_between-from.result.0 ≤ n = c.loop-n.auto.n in
    let value = All-get_or (IsValue s) values n 0 (omega arith) (all_values s a values c.shape-shape.ensures.matrix c.values-values.ensures) in
    record {
      sum = c.add-sum.ensures ∙ (λ t. s.add (c.loop-n.invariant.sum t) (is_value t)) ∙ sym (total_more s laws a c.shape-shape.ensures.matrix c.entries_between-from.result.0 n from l);
      value = subst (IsValue s) (sym c.add-sum.ensures) (laws.add_value _ _ c.loop-n.invariant.value value);
    }
