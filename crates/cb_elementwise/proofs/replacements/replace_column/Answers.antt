use Rattle.std.proofs.Common.{◌≡◌, ◌≢◌, ◌+◌, ◌<◌, ◌∙◌, ◌++◌, [], ◌∷◌, ℕ, length, get_or, sym, subst, arith}
use Rattle.std.proofs.lemmas.List.Elements.{All-get_or}
use Rattle.cb_semirings.specs.Arithmetic.{IsValue}
use Rattle.cb_elementwise.proofs.ReplacedColumn.{replaced_none, replaced_same, replaced_kept, replaced_dropped, replaced_all}
use Rattle.cb_elementwise.proofs.replacements.replace_column.Goals as goal
use Rattle.cb_elementwise.proofs.replacements.replace_column.Goals.{then-value-zero, else-value-zero}

pub loop-n-init : goal.loop-n-init
loop-n-init g c = record {
  made = replaced_none g.S.Semiring.arithmetic g.met.S.Semiring.is_semiring (λ i x. g.R.ValueRule.made c.args.rule.now i c.args.column x) c.args.rows.now c.args.values.now c.requires.entries _ _ (c.in_ok-reserve.ensures.items ∙ c.clear.ensures.items) (c.in_ok-reserve-2.ensures.items ∙ c.clear-2.ensures.items);
  rows_room = omega (arith, c.in_ok-reserve.ensures.ok);
  values_room = omega (arith, c.in_ok-reserve-2.ensures.ok);
}

pub make-value-requires-clause-value : goal.make-value-requires-clause-value
make-value-requires-clause-value g c =
    let e = c.requires.entries.same_length in
    let l : c.loop-n.n < length c.args.values.now = let t = c.loop-n-test.true in omega arith in
    All-get_or (IsValue g.S.Semiring.arithmetic) c.args.values.now c.loop-n.n 0 l c.requires.entries.are_values

pub make-value-requires-clause-fits : goal.make-value-requires-clause-fits
make-value-requires-clause-fits g c = All-get_or (λ i. g.R.ValueRule.fits c.args.rule.now i c.args.column) c.args.rows.now c.loop-n.n 0 c.loop-n-test.true c.requires.fits

pub loop-n-preserved : goal.loop-n-preserved
loop-n-preserved g c =
    let s = g.S.Semiring.arithmetic in
    let laws = g.met.S.Semiring.is_semiring in
    let made : ℕ → ℕ → ℕ = λ i x. g.R.ValueRule.made c.args.rule.now i c.args.column x in
    let rows = c.args.rows.now in
    let values = c.args.values.now in
    let is = c.requires.entries in
    let inv = c.loop-n.invariant in
    let n = c.loop-n.n in
    let l : n < length rows = c.loop-n-test.true in
    let long = is.same_length in
    let l' : n < length values = omega arith in
    let v : ℕ = c.make-value.result in
    let v_is : v ≡ made (get_or rows n 0) (get_or values n 0) = c.make-value.ensures in
    elim c.if-value-zero.branch [
      | then-value-zero w ↦
          let some : v ≢ s.zero = λ e. w.if-value-zero.true (e ∙ sym c.zero.ensures) in
          let fits = All-get_or (λ i. g.R.ValueRule.fits c.args.rule.now i c.args.column) rows n 0 l c.requires.fits in
          let value : IsValue s v = subst (IsValue s) (sym v_is) (g.met.R.ValueRule.values c.args.rule.now (get_or rows n 0) c.args.column (get_or values n 0) fits (All-get_or (IsValue s) values n 0 l' is.are_values)) in
          let new_rows = w.push_reserved.ensures in
          let new_values = w.push_reserved-then-value-zero.ensures in
          rw (w.kept_rows-is, w.kept_values-is) (record {
            made = replaced_same s laws made rows values is (n + 1) (c.loop-n.kept_rows.items ++ get_or rows n 0 ∷ []) (c.loop-n.kept_values.items ++ v ∷ []) w.push_reserved.new.self.items w.push_reserved-then-value-zero.new.self.items
                new_rows.items new_values.items (replaced_kept s laws made rows values is n l c.loop-n.kept_rows.items c.loop-n.kept_values.items v value v_is some c.loop-n.invariant.made);
            rows_room = omega (arith, inv.rows_room, new_rows.len, new_rows.capacity, l);
            values_room = omega (arith, inv.values_room, new_values.len, new_values.capacity, l);
          })
      | else-value-zero w ↦
          let none : v ≡ s.zero = w.if-value-zero.false ∙ c.zero.ensures in
          rw (w.kept_rows-is, w.kept_values-is) (record {
            made = replaced_dropped s laws made rows values is n l c.loop-n.kept_rows.items c.loop-n.kept_values.items (sym v_is ∙ none) inv.made;
            rows_room = omega (arith, inv.rows_room, l);
            values_room = omega (arith, inv.values_room, l);
          })
    ]

pub returns-clause-values : goal.returns-clause-values
returns-clause-values g c = replaced_all g.S.Semiring.arithmetic g.met.S.Semiring.is_semiring (λ i x. g.R.ValueRule.made c.args.rule.now i c.args.column x) c.args.rows.now c.args.values.now c.requires.entries c.loop-n.n _ _ (let f = c.loop-n-test.false in omega arith) c.loop-n.invariant.made
