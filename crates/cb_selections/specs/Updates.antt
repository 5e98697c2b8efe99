-- A matrix updated by another one, under a mask.
use Rattle.std.specs.Prelude.{ℕ, Bool, true, not, cond, Option, Some, None}
use Rattle.cb_semirings.specs.Arithmetic.{Arithmetic}
use Rattle.cb_matrix.specs.Sparse.{Sparse, at}
use Rattle.cb_matrix.specs.Values.{matrix_of}
use Rattle.cb_matrix.specs.Operations.{has_entry}
use Rattle.cb_selections.specs.declared.updates.WriteBack.{WriteBack}

-- whether a mask covers the place (i, j): it has an entry there; no mask covers all places
abbrev pub covers : Arithmetic → Option Sparse → ℕ → ℕ → Bool
covers s None i j = true
covers s (Some m) i j = has_entry s m i j

-- whether a mask allows the place (i, j): it covers the place or, if it is complemented, it doesn't
abbrev pub allows : Arithmetic → Bool → Option Sparse → ℕ → ℕ → Bool
allows s complement mask i j = cond complement (not (covers s mask i j)) (covers s mask i j)

-- the value after an update, of an old and a new one: at a place that is allowed, the new value or the sum of both; elsewhere
-- the old value or zero
abbrev pub written : Arithmetic → WriteBack → Bool → ℕ → ℕ → ℕ
written s how allowed x y = cond allowed (cond how.accumulate (s.add x y) y) (cond how.replace s.zero x)

-- the old matrix updated by a new one at the places that the mask allows
abbrev pub updated : Arithmetic → WriteBack → Option Sparse → Sparse → Sparse → Sparse
updated s how mask old new =
    matrix_of s old.shape (λ i j. written s how (allows s how.complement mask i j) (at s old i j) (at s new i j))

-- the values of a at the places that a mask allows
abbrev pub allowed : Arithmetic → Bool → Sparse → Sparse → Sparse
allowed s complement m a = matrix_of s a.shape (λ i j. cond (allows s complement (Some m) i j) (at s a i j) s.zero)
