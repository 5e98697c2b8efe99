use Rattle.std.proofs.Common.{◌+◌, ◌*◌, ◌++◌, [], ◌∷◌, length, ap, sym, ◌∙◌, arith}
use Rattle.std.proofs.lemmas.List.FromFn.{length-map-range_with_len, map-range_with_len_more}
use Rattle.cb_grid.proofs.Grid.column_group.Goals as goal

pub push_reserved-requires : goal.push_reserved-requires
push_reserved-requires c =
    let q = c.args.self.now.side in
    let e = ap length c.loop-i.invariant.0 ∙ length-map-range_with_len (λ i. i * q + c.args.column) 0 c.loop-i.i in
    let k = c.loop-i.invariant.1 in
    let l = c.loop-i-test.true in
    let m = c.side-i-end.ensures.limit in
    (omega arith, omega arith)

pub loop-i-preserved : goal.loop-i-preserved
loop-i-preserved c =
    let q = c.args.self.now.side in (
      c.push_reserved.ensures.items
          ∙ (λ t. c.loop-i.invariant.0 t ++ c.rank.ensures t ∷ [])
          ∙ sym (map-range_with_len_more (λ i. i * q + c.args.column) 0 c.loop-i.i c.loop-i.i (omega arith)),
      c.push_reserved.ensures.capacity ∙ c.loop-i.invariant.1,
    )
