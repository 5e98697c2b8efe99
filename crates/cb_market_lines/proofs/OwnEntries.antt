-- A matrix is what its own entries give.
use Rattle.std.proofs.Common.{◌≡◌, ℕ, ◌<◌, true, false, List, [], ◌∷◌, arith, sym, refl, ⊎_elim, inl, inr}
use Rattle.std.specs.Prelude.{All, AllPairs}
use Rattle.std.proofs.lemmas.Bool.{cases_Bool}
use Rattle.std.proofs.lemmas.List.Elements.{All-head, All-tail}
use Rattle.cb_semirings.specs.Arithmetic.{Arithmetic, IsValue, IsSemiring}
use Rattle.cb_matrix.specs.declared.Entry.{Entry}
use Rattle.cb_matrix.specs.Sparse.{Sparse, IsMatrix, IsBefore, is_at, value_at}
use Rattle.cb_matrix.specs.Values.{total, values_at, collected}
use Rattle.cb_matrix.proofs.Places.{is_at-before, is_at-parts, AllPairs-head, AllPairs-tail, IsPlaceBefore}
use Rattle.cb_matrix.proofs.Totals.{total-one}
use Rattle.cb_matrix.proofs.Equal.{matrix_is}

before_place : (e d : Entry) (i j : ℕ) → i ≡ e.row → j ≡ e.column → IsBefore e d → IsPlaceBefore i j d
before_place e d i j p q h = ⊎_elim (λ (a : e.column < d.column). inl (omega arith)) (λ (a : (e.column ≡ d.column) × (e.row < d.row)). inr (omega arith, omega arith)) h

-- entries after a place have no value there
none_after : (e : Entry) (es : List Entry) (i j : ℕ) → i ≡ e.row → j ≡ e.column → All (IsBefore e) es → values_at es i j ≡ []
none_after e [] i j p q h = refl
none_after e (d ∷ es) i j p q h =
    let b : IsPlaceBefore i j d = before_place e d i j p q (All-head (IsBefore e) d es h) in
    rw (is_at-before d i j b) (none_after e es i j p q (All-tail (IsBefore e) d es h))

value_total : (s : Arithmetic) (laws : IsSemiring s) (es : List Entry) (i j : ℕ) → AllPairs IsBefore es → All (λ e. IsValue s e.value) es → value_at s.zero es i j ≡ total s (values_at es i j)
unfolding value_at total
value_total s laws [] i j h k = refl
value_total s laws (e ∷ es) i j h k = ⊎_elim
    (λ (a : is_at i j e ≡ true). let p = is_at-parts e i j a in rw a (rw (none_after e es i j p.0 p.1 (AllPairs-head IsBefore e es h)) (sym (total-one s laws e.value (All-head (λ d. IsValue s d.value) e es k)))))
    (λ (a : is_at i j e ≡ false). rw a (value_total s laws es i j (AllPairs-tail IsBefore e es h) (All-tail (λ d. IsValue s d.value) e es k)))
    (cases_Bool (is_at i j e))

-- a matrix is what its own entries give
pub own_entries : (s : Arithmetic) (laws : IsSemiring s) (m : Sparse) → IsMatrix s m → m ≡ collected s m.shape m.entries
own_entries s laws m h = matrix_is s laws m m.shape (λ i j. total s (values_at m.entries i j)) h refl (λ i j _ _. value_total s laws m.entries i j h.ascending h.values)
