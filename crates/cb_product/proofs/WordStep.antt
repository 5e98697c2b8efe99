-- One row of a word of marks, whose sum moves to the column.
use Rattle.std.proofs.Common.{◌≡◌, ◌≢◌, ℕ, ◌+◌, ◌*◌, ◌<◌, List, length, get_or, set, ap, ◌∙◌, ⊎_elim, arith}
use Rattle.std.specs.Prelude.{All}
use Rattle.std.specs.Int.{bit_at, trailing_zeros, w64}
use Rattle.std.proofs.lemmas.Bool.{cases_eq}
use Rattle.std.proofs.lemmas.Nat.Bits.{bit_at-lt}
use Rattle.std.proofs.lemmas.List.{length-set, get_or-set_same}
use Rattle.std.proofs.lemmas.List.Elements.{All-set, All-get_or}
use Rattle.cb_semirings.specs.Arithmetic.{Arithmetic, IsValue, IsSemiring}
use Rattle.cb_product.specs.SparseColumn.{SparseColumn, value_in, one_value}
use Rattle.cb_product.proofs.RowValues.{one_value-value}
use Rattle.cb_product.proofs.DenseRowSums.{moved, zero_stays}
use Rattle.cb_product.proofs.MarkBits.{low_within, without_low, left_bit, gone_bit}

-- while the sums of the n-th word's rows are moved: `rest` marks the rows that are left
pub record IsWordSoFar (s : Arithmetic) (first : List ℕ) (start : SparseColumn) (n word : ℕ) (sums : List ℕ) (made : SparseColumn) (rest : ℕ) : Type 0 where
  pub long : length sums ≡ length first
  pub values : All (IsValue s) sums
  pub column : (i : ℕ) → IsValue s (value_in s.zero made i)
  pub subset : (k : ℕ) → bit_at rest k ≡ 1 → bit_at word k ≡ 1
  pub before : (k : ℕ) → bit_at rest k ≡ 1 → All (λ i. i < n * 64 + k) made.rows
  pub upper : All (λ i. i < n * 64 + 64) made.rows
  pub stay : (i : ℕ) → get_or first i s.zero ≡ s.zero → get_or sums i s.zero ≡ s.zero
  pub zeros : (k : ℕ) → bit_at word k ≡ 1 → bit_at rest k ≡ 0 → get_or sums (n * 64 + k) s.zero ≡ s.zero
  pub together : (i : ℕ) → s.add (value_in s.zero made i) (get_or sums i s.zero) ≡ s.add (value_in s.zero start i) (get_or first i s.zero)

module _ (s : Arithmetic) (laws : IsSemiring s) (first : List ℕ) (start : SparseColumn) (n word : ℕ) (sums : List ℕ) (made : SparseColumn) (w : ℕ) (h : IsWordSoFar s first start n word sums made w)
    (fits : w < 18446744073709551616) (some : 0 < w) (inside : n * 64 + trailing_zeros w64 w < length sums) where
  abbrev row : ℕ
  row = n * 64 + trailing_zeros w64 w

  -- the row's value is a value of the semiring
  pub word_value : IsValue s (get_or sums row 0)
  word_value = All-get_or (IsValue s) sums row 0 inside h.values

  -- the lowest row's sum is moved
  pub word_step : (new : SparseColumn) (z : ℕ) → z ≡ s.zero → ((i : ℕ) → value_in s.zero new i ≡ s.add (value_in s.zero made i) (one_value s.zero (row, get_or sums row 0) i)) → ((bound : ℕ) → row < bound → All (λ i. i < bound) new.rows)
      → IsWordSoFar s first start n word (set sums row z) new (without_low w fits some)
  word_step new z is_zero sum rows = rw is_zero (record {
    long = length-set sums row s.zero ∙ h.long;
    values = All-set (IsValue s) sums row s.zero laws.zero_value h.values;
    column = λ i. rw (sum i) (laws.add_value _ _ (h.column i) (one_value-value s laws (row, get_or sums row 0) i word_value));
    subset = λ k b. h.subset k (left_bit w fits some k b).1;
    before = λ k b. let later = (left_bit w fits some k b).2 in rows (n * 64 + k) (omega arith);
    upper = let small = low_within w fits some in rows (n * 64 + 64) (omega arith);
    stay = λ i e. zero_stays s.zero sums row i inside (h.stay i e);
    zeros = λ k one none. ⊎_elim
        (λ (b : bit_at w k ≡ 1). ap (λ j. get_or (set sums row s.zero) (n * 64 + j) s.zero) (gone_bit w fits some k none b) ∙ get_or-set_same sums row s.zero s.zero inside)
        (λ (b : bit_at w k ≡ 1 → ⊥). let o : bit_at w k ≢ 1 = b in let below = bit_at-lt w k in let gone : bit_at w k ≡ 0 = omega arith in zero_stays s.zero sums row (n * 64 + k) inside (h.zeros k one gone))
        (cases_eq (bit_at w k) 1);
    together = λ i. ap (λ x. s.add x (get_or (set sums row s.zero) i s.zero)) (sum i) ∙ moved s laws sums row i (value_in s.zero made i) h.values inside (h.column i) ∙ h.together i;
  })
