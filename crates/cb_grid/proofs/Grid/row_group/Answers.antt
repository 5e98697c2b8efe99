use Rattle.std.proofs.Common.{◌+◌, ◌*◌, ◌++◌, [], ◌∷◌, length, ap, sym, ◌∙◌, arith}
use Rattle.std.proofs.lemmas.List.FromFn.{length-map-range_with_len, map-range_with_len_more}
use Rattle.cb_grid.proofs.Grid.row_group.Goals as goal

pub push_reserved-requires : goal.push_reserved-requires
push_reserved-requires c =
    let q = c.args.self.now.side in
    let e = ap length c.loop-j.invariant.0 ∙ length-map-range_with_len (λ j. c.args.row * q + j) 0 c.loop-j.j in
    let k = c.loop-j.invariant.1 in
    let l = c.loop-j-test.true in
    let m = c.side-j-end.ensures.limit in
    (omega arith, omega arith)

pub loop-j-preserved : goal.loop-j-preserved
loop-j-preserved c =
    let q = c.args.self.now.side in (
      c.push_reserved.ensures.items
          ∙ (λ t. c.loop-j.invariant.0 t ++ c.rank.ensures t ∷ [])
          ∙ sym (map-range_with_len_more (λ j. c.args.row * q + j) 0 c.loop-j.j c.loop-j.j (omega arith)),
      c.push_reserved.ensures.capacity ∙ c.loop-j.invariant.1,
    )
