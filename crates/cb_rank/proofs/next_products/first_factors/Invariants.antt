use Rattle.std.proofs.Common.{◌≡◌, length, take}
use Rattle.std.specs.List.{AllZip}
use Rattle.cb_rank.specs.AddedProducts.{AddsProduct}
use Rattle.cb_rank.proofs.next_products.first_factors.Given as goal

abbrev pub invariant-loop-half : goal.invariant-loop-half
invariant-loop-half l = record {
  size : length l.factors.items ≡ l.half-index;
  add : AllZip (AddsProduct l.acc) (take l.half-index l.halves) l.factors.items;
}
