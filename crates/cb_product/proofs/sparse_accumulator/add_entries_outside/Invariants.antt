use Rattle.std.proofs.Common.{◌≡◌, ◌≢◌, ℕ, ◌/◌, ◌<◌, length, get_or}
use Rattle.std.specs.Prelude.{◌==◌, All}
use Rattle.cb_product.specs.Marks.{IsAccumulator, mark_of}
use Rattle.cb_product.proofs.Outside.{left_outside}
use Rattle.cb_product.proofs.sparse_accumulator.add_entries_outside.Given as goal

abbrev pub invariant-loop-n : goal.invariant-loop-n
invariant-loop-n g l =
    let s = g.S.Semiring.arithmetic in
    record {
      long : length l.sums ≡ length l.fn.sums;
      accumulator : IsAccumulator s l.sums l.marks l.groups;
      groups : (k : ℕ) → All (λ i. i / 4096 ≢ k) l.rows → get_or l.groups k 0 ≡ get_or l.fn.groups k 0;
      sums : (i : ℕ) → i < length l.sums → s.add (get_or l.sums i s.zero) (left_outside s l.rows l.values l.scale (λ k. mark_of l.excluded k == 1) l.n i) ≡ s.add (get_or l.fn.sums i s.zero) (left_outside s l.rows l.values l.scale (λ k. mark_of l.excluded k == 1) 0 i);
    }
