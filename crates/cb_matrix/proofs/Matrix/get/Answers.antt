use Rattle.std.proofs.Common.{rules, ◌≡◌, ◌<◌, List, length, get_or, sym, ap, ◌∙◌, subst}
use Rattle.std.proofs.lemmas.List.Sorted.{answers_always}
use Rattle.std.specs.declared.cmp.Ordering.TheVariants.{Less, Equal, Greater}
use Rattle.std.specs.List.Sorted.{IsPartitionPoint}
use Rattle.cb_matrix.specs.declared.Entry.{Entry}
use Rattle.cb_matrix.specs.Sparse.{Sparse, at}
use Rattle.cb_matrix.proofs.Order.{place, place_cmp}
use Rattle.cb_matrix.proofs.Search.{value_at-there, value_at-missed, equal_place, ascending_rises}
use Rattle.cb_matrix.proofs.Matrix.get.Goals as goal

pub returns-in-Ok-clause-value : goal.returns-in-Ok-clause-value
returns-in-Ok-clause-value g c =
    let s = g.S.Semiring.arithmetic in
    let i = c.args.row in
    let j = c.args.column in
    let k = c.in-Ok.found in
    let x = c.index.result.now in
    let es = c.self.inside.entries.items in
    let here : (d : Entry) → place_cmp (place (get_or es k d)) (j, i) ≡ Equal =
    subst (λ (l : List Entry). (d : Entry) → place_cmp (place (get_or l k d)) (j, i) ≡ Equal) c.deref.ensures.value (c.in-Ok.ensures.position place (answers_always _ _ _ (λ f a r f' k. search rules))) in
    let within : k < length es = subst (λ (l : List Entry). k < length l) c.deref.ensures.value c.in-Ok.ensures.bound in
    let same = equal_place (get_or es k x) i j (here x) in
    ap (λ (e : Entry). e.value) c.index.ensures
    ∙ sym (value_at-there s.zero es k i j x c.self.invariant.ascending within same.0 same.1)
    ∙ ap (λ (m : Sparse). at s m i j) c.self.view_is

pub returns-in-Err-clause-value : goal.returns-in-Err-clause-value
returns-in-Err-clause-value g c =
    let s = g.S.Semiring.arithmetic in
    let i = c.args.row in
    let j = c.args.column in
    let n = c.in-Err.field-0 in
    let es = c.self.inside.entries.items in
    let apart : IsPartitionPoint (λ e. place_cmp (place e) (j, i) ≡ Less) (λ e. place_cmp (place e) (j, i) ≡ Greater) es n =
    subst (λ (l : List Entry). IsPartitionPoint (λ e. place_cmp (place e) (j, i) ≡ Less) (λ e. place_cmp (place e) (j, i) ≡ Greater) l n) c.deref.ensures.value
    (c.in-Err.ensures.position place (answers_always _ _ _ (λ f a r f' k. search rules)) (rw c.deref.ensures.value (ascending_rises es i j c.self.invariant.ascending))) in
    c.zero.ensures ∙ sym (value_at-missed s.zero es n i j apart) ∙ ap (λ (m : Sparse). at s m i j) c.self.view_is
