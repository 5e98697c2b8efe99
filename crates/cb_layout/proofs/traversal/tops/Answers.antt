use Rattle.std.proofs.Common.{◌≡◌, ◌≢◌, get_or, set, ap, sym, ⊎_elim, ◌∙◌, arith}
use Rattle.std.proofs.lemmas.Bool.{cases_eq}
use Rattle.std.proofs.lemmas.List.{get_or-set_same, get_or-set_other, length-set}
use Rattle.cb_grid.specs.Parts.{part_start}
use Rattle.cb_layout.proofs.traversal.tops.Goals as goal

pub loop-part-preserved : goal.loop-part-preserved
loop-part-preserved c =
    let i = c.loop-part.part in
    let xs = c.loop-part.tops in
    let top = c.range-top.result.0 in
    let side = c.side-part-end.ensures.value in
    let limit = c.side-part-end.ensures.limit in
    let test = c.loop-part-test.true in
    let all = c.loop-part.invariant.0 in (
      length-set xs i top ∙ all,
      (λ k l.
          ⊎_elim
          (λ (p : k ≡ i). ap (λ n. get_or (set xs i top) n 0) p ∙ get_or-set_same xs i top 0 (omega arith) ∙ c.range-top.ensures.start ∙ ap (part_start c.args.grid.side c.args.rows) (sym p))
          (λ (p : k ≢ i). get_or-set_other xs i k top 0 p ∙ c.loop-part.invariant.1 k (omega arith))
          (cases_eq k i)),
    )
