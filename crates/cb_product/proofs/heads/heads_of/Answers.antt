use Rattle.std.proofs.Common.{refl, subst, sym}
use Rattle.std.specs.Prelude.{All}
use Rattle.std.proofs.lemmas.List.Elements.{All-nil, All-cons, All-get_or}
use Rattle.std.proofs.lemmas.List.Sorted.{All-permutation}
use Rattle.cb_product.specs.Heads.{IsHead}
use Rattle.cb_product.specs.Terms.{IsTerm, terms_value}
use Rattle.cb_product.proofs.HeapStep.{head_of_term, heads_start, heads_more, heads_all}
use Rattle.cb_product.proofs.heads.heads_of.Goals as goal

pub loop-term-init : goal.loop-term-init
loop-term-init g c =
    let s = g.S.Semiring.arithmetic in
    record {
      heads = subst (λ xs. All (IsHead s c.args.rows.now) xs) (sym c.new-heads.ensures.items) (All-nil (IsHead s c.args.rows.now));
      order = c.new-heads.ensures.heap_order;
      sums = λ values same all i. heads_start s g.met.S.Semiring.is_semiring c.args.rows.now values same all _ c.args.terms.now c.requires c.new-heads.ensures.items i;
    }

pub loop-term-preserved : goal.loop-term-preserved
loop-term-preserved g c =
    let s = g.S.Semiring.arithmetic in
    let rows = c.args.rows.now in
    let terms = c.args.terms.now in
    let n = c.loop-term.term-index in
    let l = c.loop-term-test.true in
    let inv = c.loop-term.invariant in
    let moved = c.in_ok-push.ensures.permutation in
    let term = All-get_or (IsTerm s rows) terms n _ l c.requires in
    let head = head_of_term s rows _ _ term term.row in
    record {
      heads = All-permutation (IsHead s rows) _ _ moved (All-cons (IsHead s rows) _ _ head inv.heads);
      order = c.in_ok-push.ensures.heap_order inv.order;
      sums = λ values same all i. heads_more s g.met.S.Semiring.is_semiring rows values same all _ _ terms n _ _ l c.requires inv.heads head moved (λ j. refl) (λ j. terms_value s rows values j terms) (inv.sums values same all) i;
    }

pub returns-clause-sums : goal.returns-clause-sums
returns-clause-sums g c =
    let inv = c.loop-term.invariant in
    λ values same all i. heads_all g.S.Semiring.arithmetic g.met.S.Semiring.is_semiring c.args.rows.now values same all _ c.args.terms.now c.loop-term.term-index c.loop-term-test.false inv.heads _ (inv.sums values same all) i
