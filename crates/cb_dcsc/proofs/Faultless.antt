-- The first fault of entries, and what entries without one are.
use Rattle.std.proofs.Common.{◌≡◌, ◌≢◌, ℕ, ◌+◌, ◌<◌, ◌≤◌, true, false, Bool, cond, Option, Some, None, List, [], ◌∷◌, length, take, drop, get_or, length-take, sym, refl, ap, ◌∙◌, arith, subst}
use Rattle.std.specs.Prelude.{All, AllPairs, ◌==◌, not, is_some}
use Rattle.std.proofs.lemmas.Bool.{eqb-false}
use Rattle.std.proofs.lemmas.Bool.Decides.{nat_tests}
use Rattle.std.proofs.lemmas.List.{drop_more, drop_all, take_more, get_or-take, get_or_default}
use Rattle.std.proofs.lemmas.List.Elements.{All-nil, All-cons, All-weaker, All-get_or}
use Rattle.cb_semirings.specs.Arithmetic.{Arithmetic}
use Rattle.cb_matrix.specs.declared.Entry.{Entry}
use Rattle.cb_matrix.specs.Sparse.{Extent, IsBefore, IsInside, is_outside, Sparse}
use Rattle.cb_matrix.proofs.Pairs.{AllPairs-nil, AllPairs-cons}
use Rattle.cb_matrix.proofs.Same.{before_trans}
use Rattle.cb_dcsc.specs.declared.block_faults.BlockFault.{BlockFault}
use Rattle.cb_dcsc.specs.declared.block_faults.BlockFault.TheVariants.{Place, Order, Zero}
use Rattle.cb_dcsc.specs.BlockFaults.{comes_after, is_late, fault_of, or_else, first_fault_from, first_fault}
use Rattle.cb_dcsc.specs.Columns.{with_entry}

-- ---- the scan
module _ (s : Arithmetic) (shape : Extent) (es : List Entry) (n : ℕ) (before : Option Entry) (e : Entry) where
  -- a fault that is found is the first
  pub scan_found : (f : Option BlockFault) → n < length es → first_fault_from s shape n before (drop n es) ≡ first_fault s shape es → f ≡ fault_of s shape n before (get_or es n e) → is_some f ≡ true → f ≡ first_fault s shape es
  unfolding first_fault_from
  scan_found f l so_far is found =
      elim f as (λ x. x ≡ fault_of s shape n before (get_or es n e) → is_some x ≡ true → x ≡ first_fault s shape es) [
        | None ↦ λ p q. cc
        | Some g ↦ λ p q. ap (λ x. or_else x (first_fault_from s shape (n + 1) (Some (get_or es n e)) (drop (n + 1) es))) p ∙ sym (ap (first_fault_from s shape n before) (drop_more es n e l)) ∙ so_far
      ] is found

  -- without one, the search goes on
  pub scan_on : (f : Option BlockFault) → n < length es → first_fault_from s shape n before (drop n es) ≡ first_fault s shape es → f ≡ fault_of s shape n before (get_or es n e) → is_some f ≡ false → first_fault_from s shape (n + 1) (Some (get_or es n e)) (drop (n + 1) es) ≡ first_fault s shape es
  unfolding first_fault_from
  scan_on f l so_far is found =
      elim f as (λ x. x ≡ fault_of s shape n before (get_or es n e) → is_some x ≡ false → first_fault_from s shape (n + 1) (Some (get_or es n e)) (drop (n + 1) es) ≡ first_fault s shape es) [
        | None ↦ λ p q. ap (λ x. or_else x (first_fault_from s shape (n + 1) (Some (get_or es n e)) (drop (n + 1) es))) p ∙ sym (ap (first_fault_from s shape n before) (drop_more es n e l)) ∙ so_far
        | Some g ↦ λ p q. cc
      ] is found

  -- at the end there is none
  pub scan_end : length es ≤ n → first_fault_from s shape n before (drop n es) ≡ first_fault s shape es → None ≡ first_fault s shape es
  unfolding first_fault_from
  scan_end l so_far = sym (ap (first_fault_from s shape n before) (drop_all n es l)) ∙ so_far

-- ---- entries without a fault
comes_after-true : (d e : Entry) → comes_after d e ≡ true → IsBefore d e
comes_after-true d e h = grind (arith, nat_tests)

is_outside-false : (shape : Extent) (e : Entry) → is_outside shape e ≡ false → IsInside shape e
is_outside-false shape e h = grind (arith, nat_tests)

-- all are inside, none is zero, and they ascend from the one before
pub record AreFaultless (s : Arithmetic) (shape : Extent) (before : Option Entry) (es : List Entry) : Type 0 where
  pub inside : All (IsInside shape) es
  pub not_zero : All (λ e. e.value ≢ s.zero) es
  pub ascending : AllPairs IsBefore es
  pub after : (d : Entry) → before ≡ Some d → All (IsBefore d) es

no_fault_of : (a b c : Bool) (p q r : BlockFault) (rest : Option BlockFault) → or_else (cond a (Some p) (cond b (Some q) (cond c (Some r) None))) rest ≡ None → (a ≡ false) × (b ≡ false) × (c ≡ false) × (rest ≡ None)
no_fault_of true b c p q r rest h = cc
no_fault_of false true c p q r rest h = cc
no_fault_of false false true p q r rest h = cc
no_fault_of false false false p q r rest h = (refl, refl, refl, h)

not_false : (b : Bool) → not b ≡ false → b ≡ true
not_false true h = refl
not_false false h = cc

not_late : (before : Option Entry) (d e : Entry) → before ≡ Some d → is_late before e ≡ false → comes_after d e ≡ true
not_late before d e p h = not_false (comes_after d e) (ap (λ o. is_late o e) (sym p) ∙ h)

-- entries without a fault are inside, none is zero, and they ascend
pub faultless : (s : Arithmetic) (shape : Extent) (n : ℕ) (before : Option Entry) (es : List Entry) → first_fault_from s shape n before es ≡ None → AreFaultless s shape before es
unfolding first_fault_from
faultless s shape n before [] h = record { inside = All-nil (IsInside shape); not_zero = All-nil (λ e. e.value ≢ s.zero); ascending = AllPairs-nil IsBefore; after = λ d _. All-nil (IsBefore d) }
faultless s shape n before (e ∷ es) h =
    let k = no_fault_of (is_outside shape e) (is_late before e) (e.value == s.zero) (Place n) (Order n) (Zero n) (first_fault_from s shape (n + 1) (Some e) es) h in
    let rest = faultless s shape (n + 1) (Some e) es k.3 in
    let later : All (IsBefore e) es = rest.after e refl in
    record {
      inside = All-cons (IsInside shape) e es (is_outside-false shape e k.0) rest.inside;
      not_zero = All-cons (λ e. e.value ≢ s.zero) e es (eqb-false e.value s.zero k.2) rest.not_zero;
      ascending = AllPairs-cons IsBefore e es later rest.ascending;
      after = λ d is. let first : IsBefore d e = comes_after-true d e (not_late before d e is k.1) in All-cons (IsBefore d) e es first (All-weaker (IsBefore e) (IsBefore d) (λ x b. before_trans d e x first b) es later);
    }

-- ---- one entry after another: entry n of entries in order, onto a block that has those before it
module _ (shape : Extent) (es : List Entry) (n : ℕ) (l : n < length es) (d : Entry) (block : Sparse) (is : block ≡ record { shape = shape; entries = take n es }) where
  -- it is inside the block's shape
  pub next_inside : All (IsInside shape) es → IsInside block.shape (get_or es n d)
  next_inside inside = rw is (All-get_or (IsInside shape) es n d l inside)

  taken_before : AllPairs IsBefore es → All (λ e. IsBefore e (get_or es n d)) (take n es)
  taken_before ascending k d' m =
      let b : k < n = let t = length-take n es in omega arith in
      let up : IsBefore (get_or es k d') (get_or es n d') = ascending k n d' b l in
      subst (λ x. IsBefore x (get_or es n d)) (sym (get_or-take n es k d' b)) (subst (λ y. IsBefore (get_or es k d') y) (get_or_default es n d' d l) up)

  -- it comes after the block's entries
  pub next_after : AllPairs IsBefore es → All (λ e. IsBefore e (get_or es n d)) block.entries
  next_after ascending = rw is (taken_before ascending)

  -- the block with it has one entry more
  pub next_block : (new : Sparse) → new ≡ with_entry block (get_or es n d) → new ≡ record { shape = shape; entries = take (n + 1) es }
  next_block new p = p ∙ ap (λ m. with_entry m (get_or es n d)) is ∙ ap (λ xs. record { shape = shape; entries = xs }) (sym (take_more es n d l))
