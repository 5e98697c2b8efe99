use Rattle.std.proofs.Common.{◌≡◌, ◌≢◌, ◌<◌, get_or, set, ap, sym, ⊎_elim, ◌∙◌, arith}
use Rattle.std.proofs.lemmas.Bool.{cases_eq}
use Rattle.std.proofs.lemmas.List.{get_or-set_same, get_or-set_other, length-set}
use Rattle.cb_matrix.specs.Sparse.{Sparse}
use Rattle.cb_dcsc.specs.Columns.{columns_with_entries}
use Rattle.cb_layout.specs.Fronts.{columns_in}
use Rattle.cb_layout.proofs.front.first_columns.Goals as goal

pub loop-i-preserved : goal.loop-i-preserved
loop-i-preserved g c =
    let q = c.args.grid.side in
    let bs = c.args.blocks.now in
    let j = c.args.column in
    let i = c.loop-i.i in
    let column = c.requires.column in
    let side = c.side-i-end.ensures.value in
    let limit = c.side-i-end.ensures.limit in
    let row : i < q = let t = c.loop-i-test.true in omega arith in
    let own : c.column_numbers.result.now ≡ columns_in q bs j i = c.column_numbers.ensures.numbers ∙ ap (λ (b : Sparse). columns_with_entries b.entries) c.block_in-block.ensures in
    let now : c.nth_or_none.result ≡ get_or (columns_in q bs j i) 0 4294967295 = c.nth_or_none.ensures ∙ ap (λ xs. get_or xs 0 4294967295) own in
    let xs = c.loop-i.columns in
    let all = c.loop-i.invariant.0 in (
      length-set xs i c.nth_or_none.result ∙ all,
      (λ k l.
          ⊎_elim
          (λ (p : k ≡ i). ap (λ n. get_or (set xs i c.nth_or_none.result) n 0) p ∙ get_or-set_same xs i c.nth_or_none.result 0 (omega arith) ∙ now ∙ ap (λ n. get_or (columns_in q bs j n) 0 4294967295) (sym p))
          (λ (p : k ≢ i). get_or-set_other xs i k c.nth_or_none.result 0 p ∙ c.loop-i.invariant.1 k (omega arith))
          (cases_eq k i)),
    )

pub returns-clause-next : goal.returns-clause-next
returns-clause-next g c done zeros k l =
    let side = c.side-i-end.ensures.value in
    let past = c.loop-i-test.false in
    c.loop-i.invariant.1 k (omega arith) ∙ ap (λ n. get_or (columns_in c.args.grid.side c.args.blocks.now c.args.column k) n 4294967295) (sym (zeros k))
