use Rattle.cb_semirings.specs.Arithmetic.{Arithmetic, IsValue}
use Rattle.std.proofs.Common.{arith, ◌≡◌, ℕ, subst, sym, ap, ◌∙◌, List, [], ◌++◌, length, take, drop}
use Rattle.std.proofs.lemmas.List.{append-nil, take_all, drop_all}
use Rattle.std.specs.Prelude.{All, AllPairs}
use Rattle.std.proofs.lemmas.List.Sorted.{All-permutation}
use Rattle.cb_matrix.specs.declared.Entry.{Entry}
use Rattle.cb_matrix.specs.Combined.{IsCombined}
use Rattle.cb_matrix.specs.Sparse.{IsNotAfter}
use Rattle.cb_matrix.proofs.Collected.{collected_matrix, collected_is}
use Rattle.cb_matrix.proofs.Matrix.collect.Goals as goal

pub combine-kept-requires-clause-values : goal.combine-kept-requires-clause-values
combine-kept-requires-clause-values g c =
    let s = g.S.Semiring.arithmetic in
    subst (λ es. All (λ (e : Entry). IsValue s e.value) es) (sym c.deref_mut.ensures.value)
    (All-permutation (λ (e : Entry). IsValue s e.value) c.args.entries.items c.in_ok-entries.entries.items c.in_ok-entries.ensures.permutation c.requires.values)

-- a vector's slice, changed, is the whole of the vector
written : {X : Type 0} (n : ℕ) (old new items : List X) → old ≡ items → length old ≡ n → length new ≡ length old → take n (new ++ drop (length new) items) ≡ new
written n old new items e f h =
    let same = ap length e in
    let rest : drop (length new) items ≡ [] = drop_all (length new) items (omega arith) in
    rw (rest, append-nil) (take_all n new (omega arith))

-- the entries that are kept
module _ (s : Arithmetic) (n kept : ℕ) (old new sorted result : List Entry) (same : old ≡ sorted) (len : length old ≡ n) (new_len : length new ≡ length old) (cut : result ≡ take kept (take n (new ++ drop (length new) sorted))) where
  kept_combined : IsCombined s old (take kept new) → IsCombined s sorted result
  kept_combined h =
      subst (λ ks. IsCombined s sorted ks) (sym (cut ∙ ap (take kept) (written n old new sorted same len new_len))) (subst (λ es. IsCombined s es (take kept new)) same h)

pub invariant_of-result : goal.invariant_of-result
invariant_of-result g c =
    let s = g.S.Semiring.arithmetic in
    let sorted = c.in_ok-entries.entries.items in
    let kept = c.truncate.new.self.items in
    let combined = kept_combined s _ _ c.deref_mut.result.now c.combine-kept.new.entries sorted kept c.deref_mut.ensures.value c.deref_mut.ensures.len c.combine-kept.auto.entries c.truncate.ensures.items c.combine-kept.ensures in
    collected_matrix s g.met.S.Semiring.is_semiring c.args.shape c.args.entries.items sorted kept c.requires.inside c.requires.values c.in_ok-entries.ensures.permutation combined

pub returns : goal.returns
returns g c =
    let s = g.S.Semiring.arithmetic in
    let sorted = c.in_ok-entries.entries.items in
    let kept = c.truncate.new.self.items in
    let combined = kept_combined s _ _ c.deref_mut.result.now c.combine-kept.new.entries sorted kept c.deref_mut.ensures.value c.deref_mut.ensures.len c.combine-kept.auto.entries c.truncate.ensures.items c.combine-kept.ensures in
    collected_is s g.met.S.Semiring.is_semiring c.args.shape c.args.entries.items sorted kept c.requires.inside c.requires.values c.in_ok-entries.ensures.permutation combined c.in_ok-entries.ensures.same

pub combine-kept-requires-clause-order : goal.combine-kept-requires-clause-order
combine-kept-requires-clause-order g c = subst (AllPairs IsNotAfter) (sym c.deref_mut.ensures.value) c.in_ok-entries.ensures.order
