-- A search by halves for the value at a place, in entries that ascend.
use Rattle.std.proofs.Common.{◌≡◌, ◌≢◌, ℕ, suc, zero, ◌<◌, ◌≤◌, ⊎_elim, false, List, [], ◌∷◌, length, get_or, sym, ◌∙◌, arith}
use Rattle.cb_matrix.specs.declared.Entry.{Entry}
use Rattle.cb_matrix.specs.Sparse.{value_at, is_at, IsBefore}
use Rattle.cb_matrix.proofs.Places.{value_at-other, is_at-own, is_at-parts, AllPairs-tail}
use Rattle.cb_matrix.proofs.Made.{value_at-none}
use Rattle.cb_matrix.proofs.Order.{place, place_cmp}
use Rattle.std.specs.Prelude.{AllPairs}
use Rattle.std.specs.Ordering.{ordering_index}
use Rattle.std.specs.List.Sorted.{IsNonDecreasingBy, IsPartitionPoint}
use Rattle.std.specs.declared.cmp.Ordering.TheVariants.{Less, Equal, Greater}
use Rattle.std.proofs.lemmas.Bool.{cond-true, false_from_ne_true, cases_eq, cases_lt}
use Rattle.std.proofs.lemmas.Bool.Decides.{nat_tests}

-- the entry at k is at the place, in entries that ascend
pub value_at-there : (z : ℕ) (es : List Entry) (k i j : ℕ) (d : Entry) → AllPairs IsBefore es → k < length es → (get_or es k d).row ≡ i → (get_or es k d).column ≡ j → value_at z es i j ≡ (get_or es k d).value
unfolding value_at
value_at-there z [] k i j d up l p q = absurd (omega arith)
value_at-there z (x ∷ es) zero i j d up l p q = cond-true _ _ _ (is_at-own x i j (sym p) (sym q))
value_at-there z (x ∷ es) (suc k) i j d up l p q =
    let before : IsBefore x (get_or es k d) = up 0 (suc k) d (omega arith) l in
    let away : is_at i j x ≡ false = false_from_ne_true _ (λ t. let r = is_at-parts x i j t in ⊎_elim (λ m. omega arith) (λ m. omega arith) before) in
    value_at-other z x es i j away ∙ value_at-there z es k i j d (AllPairs-tail IsBefore x es up) (omega arith) p q

-- what a search by halves is told of an entry
pub equal_place : (e : Entry) (i j : ℕ) → place_cmp (place e) (j, i) ≡ Equal → (e.row ≡ i) × (e.column ≡ j)
equal_place e i j h = grind (arith, nat_tests)

less_place : (e : Entry) (i j : ℕ) → place_cmp (place e) (j, i) ≡ Less → is_at i j e ≡ false
less_place e i j h = grind (arith, nat_tests)

greater_place : (e : Entry) (i j : ℕ) → place_cmp (place e) (j, i) ≡ Greater → is_at i j e ≡ false
greater_place e i j h = grind (arith, nat_tests)

rising : (d e : Entry) (i j : ℕ) → IsBefore d e → ordering_index (place_cmp (place d) (j, i)) ≤ ordering_index (place_cmp (place e) (j, i))
rising d e i j h = grind (arith, nat_tests)

-- entries that ascend are in order for a search by halves
pub ascending_rises : (es : List Entry) (i j : ℕ) → AllPairs IsBefore es → IsNonDecreasingBy (λ e. ordering_index (place_cmp (place e) (j, i))) es
ascending_rises es i j up k l d m n =
    ⊎_elim
    (λ (e : k ≡ l). rw e (omega arith))
    (λ (ne : k ≡ l → ⊥). rising (get_or es k d) (get_or es l d) i j (up k l d (let p : k ≢ l = ne in omega arith) n))
    (cases_eq k l)

-- a search by halves that finds nothing: there is no entry at the place
pub value_at-missed : (z : ℕ) (es : List Entry) (n i j : ℕ) → IsPartitionPoint (λ e. place_cmp (place e) (j, i) ≡ Less) (λ e. place_cmp (place e) (j, i) ≡ Greater) es n → value_at z es i j ≡ z
value_at-missed z es n i j h = value_at-none z es i j (λ k d l.
    ⊎_elim
    (λ (m : k < n). less_place (get_or es k d) i j (h.0 k d (omega arith) m))
    (λ (m : n ≤ k). greater_place (get_or es k d) i j (h.1 k d m l))
    (cases_lt k n))
