use Rattle.std.proofs.Common.{◌≡◌, ℕ, ◌<◌, ◌≤◌, get_or, replicate, length, ap, subst, ⊎_elim, ◌∙◌, arith}
use Rattle.std.specs.Prelude.{IfSome, IfNone}
use Rattle.std.proofs.lemmas.Bool.{cases_lt}
use Rattle.std.proofs.lemmas.List.{get_or_past, get_or-replicate, length-replicate}
use Rattle.cb_grid.specs.declared.TheConstants.{LARGEST_SIDE}
use Rattle.cb_grid.specs.Parts.{part_start}
use Rattle.cb_layout.specs.Fronts.{IsLeast}
use Rattle.cb_layout.proofs.front.Front.start.Goals as goal

zeros : (n k : ℕ) → ◌≡◌ {A = ℕ} (get_or (replicate {A = ℕ} n 0) k 0) 0
zeros n k =
    let e : length (replicate {A = ℕ} n 0) ≡ n = length-replicate n 0 in
    ⊎_elim (λ l. get_or-replicate n k 0 0 l) (λ l. get_or_past (replicate n 0) k 0 (omega arith)) (cases_lt k n)

pub returns-clause-start : goal.returns-clause-start
returns-clause-start g c k = zeros LARGEST_SIDE k

pub returns-clause-front : goal.returns-clause-front
returns-clause-front g c =
    let q = c.args.grid.side in
    let width = c.cols.ensures.value in
    let limit = c.cols.ensures.limit in
    let side = c.side.ensures.value in
    let largest = c.side.ensures.limit in
    record {
      column = c.requires.column;
      few = omega arith;
      limit = omega arith;
      left = c.range-left.ensures.start ∙ ap (λ d. part_start q d c.args.column) c.cols.ensures.value;
      all_done = length-replicate {A = ℕ} LARGEST_SIDE 0;
      all_columns = c.first_columns-columns.ensures.all;
      next = c.first_columns-columns.ensures.next (replicate LARGEST_SIDE 0) (zeros LARGEST_SIDE);
      some = subst (λ q. IfSome c.least-first.result (λ t. IsLeast q c.first_columns-columns.result t.0 t.1)) side c.least-first.ensures.some;
      none = subst (λ q. IfNone c.least-first.result ((k : ℕ) → k < q → 4294967295 ≤ get_or c.first_columns-columns.result k 0)) side c.least-first.ensures.none;
    }
