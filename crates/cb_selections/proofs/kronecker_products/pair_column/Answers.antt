use Rattle.std.proofs.Common.{◌≡◌, ◌≢◌, ◌+◌, ◌*◌, ◌^◌, ◌<◌, ◌∙◌, ◌++◌, [], ◌∷◌, ℕ, get_or, sym, ap, arith}
use Rattle.std.specs.Prelude.{All}
use Rattle.std.proofs.lemmas.List.Elements.{All-from_get_or}
use Rattle.cb_selections.proofs.ListMade.{list_same}
use Rattle.cb_selections.proofs.PairedRows.{pairs_of, rows_none, rows_all, row_none, row_all, pair_kept, pair_dropped}
use Rattle.cb_selections.proofs.kronecker_products.pair_column.Goals as goal
use Rattle.cb_selections.proofs.kronecker_products.pair_column.Goals.{then-value-zero+in_ok-push+in_ok-push-2, else-value-zero}

pub loop-n-init : goal.loop-n-init
loop-n-init g c =
    let s = g.S.Semiring.arithmetic in
    let laws = g.met.S.Semiring.is_semiring in
    let ls = c.args.left_rows.now in
    let lvs = c.args.left_values.now in
    let rs = c.args.rows.now in
    let rvs = c.args.values.now in
    let r = c.requires in
    let h = c.args.height in
    let low32 : All (λ i. i < 2 ^ 32) ls = All-from_get_or (λ i. i < 2 ^ 32) ls 0 (λ i _. let fits = (c.type_inv.left_rows i).fits in omega arith) in
    rows_none s laws ls lvs rs rvs r.left r.right h (2 ^ 32) r.low low32 _ _ c.clear.ensures.items c.clear-2.ensures.items

pub loop-m-init : goal.loop-m-init
loop-m-init g c =
    let s = g.S.Semiring.arithmetic in
    let laws = g.met.S.Semiring.is_semiring in
    let ls = c.args.left_rows.now in
    let lvs = c.args.left_values.now in
    let rs = c.args.rows.now in
    let rvs = c.args.values.now in
    let r = c.requires in
    let h = c.args.height in
    let low32 : All (λ i. i < 2 ^ 32) ls = All-from_get_or (λ i. i < 2 ^ 32) ls 0 (λ i _. let fits = (c.type_inv.left_rows i).fits in omega arith) in
    row_none s laws ls lvs rs rvs r.left r.right h (2 ^ 32) r.low low32 c.loop-n.n c.loop-n-test.true c.loop-n.kept_rows.items c.loop-n.kept_values.items c.loop-n.invariant

pub loop-m-preserved : goal.loop-m-preserved
loop-m-preserved g c =
    let s = g.S.Semiring.arithmetic in
    let laws = g.met.S.Semiring.is_semiring in
    let ls = c.args.left_rows.now in
    let lvs = c.args.left_values.now in
    let rs = c.args.rows.now in
    let rvs = c.args.values.now in
    let r = c.requires in
    let h = c.args.height in
    let low32 : All (λ i. i < 2 ^ 32) ls = All-from_get_or (λ i. i < 2 ^ 32) ls 0 (λ i _. let fits = (c.type_inv.left_rows i).fits in omega arith) in
    let n = c.loop-n.n in
    let m = c.loop-m.m in
    let ks = c.loop-m.kept_rows.items in
    let ws = c.loop-m.kept_values.items in
    let v : ℕ = c.mul-value.result in
    let v_is : v ≡ s.mul (get_or lvs n 0) (get_or rvs m 0) = c.mul-value.ensures in
    let next : ℕ = get_or ls n 0 * h + get_or rs (m + 1) h in
    elim c.if-value-zero.branch [
      | then-value-zero+in_ok-push+in_ok-push-2 w ↦
          let some : v ≢ s.zero = λ e. w.if-value-zero.true (e ∙ sym c.zero.ensures) in
          list_same s (pairs_of s laws ls lvs rs rvs r.left r.right h (2 ^ 32) r.low low32) next (ks ++ (get_or ls n 0 * h + get_or rs m 0) ∷ []) (ws ++ v ∷ []) c.if-value-zero.kept_rows.items c.if-value-zero.kept_values.items
          (ap (λ x. x.items) w.kept_rows-is ∙ w.in_ok-push.ensures.items) (ap (λ x. x.items) w.kept_values-is ∙ w.in_ok-push-2.ensures.items)
          (pair_kept s laws ls lvs rs rvs r.left r.right h (2 ^ 32) r.low low32 n c.loop-n-test.true m c.loop-m-test.true ks ws v v_is some c.loop-m.invariant)
      | else-value-zero w ↦
          let none : v ≡ s.zero = w.if-value-zero.false ∙ c.zero.ensures in
          list_same s (pairs_of s laws ls lvs rs rvs r.left r.right h (2 ^ 32) r.low low32) next ks ws c.if-value-zero.kept_rows.items c.if-value-zero.kept_values.items
          (ap (λ x. x.items) w.kept_rows-is) (ap (λ x. x.items) w.kept_values-is)
          (pair_dropped s laws ls lvs rs rvs r.left r.right h (2 ^ 32) r.low low32 n c.loop-n-test.true m c.loop-m-test.true ks ws v v_is none c.loop-m.invariant)
    ]

pub loop-n-preserved : goal.loop-n-preserved
loop-n-preserved g c =
    let s = g.S.Semiring.arithmetic in
    let laws = g.met.S.Semiring.is_semiring in
    let ls = c.args.left_rows.now in
    let lvs = c.args.left_values.now in
    let rs = c.args.rows.now in
    let rvs = c.args.values.now in
    let r = c.requires in
    let h = c.args.height in
    let low32 : All (λ i. i < 2 ^ 32) ls = All-from_get_or (λ i. i < 2 ^ 32) ls 0 (λ i _. let fits = (c.type_inv.left_rows i).fits in omega arith) in
    row_all s laws ls lvs rs rvs r.left r.right h (2 ^ 32) r.low low32 c.loop-n.n c.loop-n-test.true c.loop-m.kept_rows.items c.loop-m.kept_values.items c.loop-m.m (let t = c.loop-m-test.false in omega arith) c.loop-m.invariant

pub returns-clause-values : goal.returns-clause-values
returns-clause-values g c =
    let s = g.S.Semiring.arithmetic in
    let laws = g.met.S.Semiring.is_semiring in
    let ls = c.args.left_rows.now in
    let lvs = c.args.left_values.now in
    let rs = c.args.rows.now in
    let rvs = c.args.values.now in
    let r = c.requires in
    let h = c.args.height in
    let low32 : All (λ i. i < 2 ^ 32) ls = All-from_get_or (λ i. i < 2 ^ 32) ls 0 (λ i _. let fits = (c.type_inv.left_rows i).fits in omega arith) in
    rows_all s laws ls lvs rs rvs r.left r.right h (2 ^ 32) r.low low32 c.loop-n.kept_rows.items c.loop-n.kept_values.items c.loop-n.n (let t = c.loop-n-test.false in omega arith) c.loop-n.invariant
