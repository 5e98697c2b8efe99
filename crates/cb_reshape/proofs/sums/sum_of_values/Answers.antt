use Rattle.std.proofs.Common.{ℕ, ◌<◌, List, [], ◌∷◌, length, take, get_or, sym, ap, subst, ◌∙◌}
use Rattle.std.proofs.lemmas.List.{take_more}
use Rattle.std.proofs.lemmas.List.Elements.{All-get_or, All-take, All-cons, All-nil}
use Rattle.cb_semirings.specs.Arithmetic.{IsValue}
use Rattle.cb_matrix.specs.Values.{total}
use Rattle.cb_matrix.proofs.Totals.{total-nil, total-one, total-append}
use Rattle.cb_reshape.proofs.sums.sum_of_values.Goals as goal

pub loop-value-init : goal.loop-value-init
loop-value-init g c =
    record {
      sum = c.zero-sum.ensures ∙ sym (total-nil g.S.Semiring.arithmetic g.met.S.Semiring.is_semiring);
      value = subst (IsValue g.S.Semiring.arithmetic) (sym c.zero-sum.ensures) g.met.S.Semiring.is_semiring.zero_value;
    }

pub loop-value-preserved : goal.loop-value-preserved
loop-value-preserved g c =
    let s = g.S.Semiring.arithmetic in
    let laws = g.met.S.Semiring.is_semiring in
    let xs : List ℕ = c.args.values.now in
    let n : ℕ = c.loop-value.value-index in
    let l : n < length xs = c.loop-value-test.true in
    let x : ℕ = get_or xs n 0 in
    let is_x : IsValue s x = All-get_or (IsValue s) xs n 0 l c.requires in
    let front = All-take (IsValue s) n xs c.requires in
    let inv = c.loop-value.invariant in
    record {
      sum = c.add-sum.ensures
          ∙ ap (λ a. s.add a x) inv.sum
          ∙ ap (s.add (total s (take n xs))) (sym (total-one s laws x is_x))
          ∙ sym (total-append s laws (take n xs) (x ∷ []) front (All-cons (IsValue s) x [] is_x (All-nil (IsValue s))))
          ∙ ap (total s) (sym (take_more xs n 0 l));
      value = subst (IsValue s) (sym c.add-sum.ensures) (laws.add_value c.loop-value.sum x inv.value is_x);
    }
