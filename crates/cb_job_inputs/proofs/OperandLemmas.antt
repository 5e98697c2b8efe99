-- Texts that are taken out of a list one after the other, and read.
use Rattle.std.proofs.Common.{◌≡◌, ℕ, ◌+◌, ◌<◌, ◌≤◌, List, [], ◌∷◌, length, drop, vec_len, get_or, ap, sym, ◌∙◌, subst, ⊎_elim, arith}
use Rattle.std.specs.Prelude.{Vec}
use Rattle.std.proofs.lemmas.Bool.{cases_lt}
use Rattle.std.proofs.lemmas.List.{get_or-drop, get_or_read}
use Rattle.cb_semirings.specs.Arithmetic.{Arithmetic}
use Rattle.cb_matrix.specs.Sparse.{Sparse}
use Rattle.cb_market_lines.specs.Reads.{Reads}
use Rattle.cb_job_ends.specs.Texts.{text_at}
use Rattle.cb_operations.specs.OperationAnswers.{matrix_at}
use Rattle.cb_job_inputs.specs.Inputs.{AreMatrices}

module _ {B : Type 0} (xs : Vec (List ℕ) B) where
  -- how many texts a list has
  pub text_count : (n : ℕ) → vec_len xs ≡ n → length xs.items ≡ n
  text_count n e = sym xs.ok.0 ∙ e

  -- the text at a position is the first one after those before it
  pub text_taken : (n : ℕ) (left : List (List ℕ)) (v : List ℕ) → n < vec_len xs → left ≡ drop n xs.items → v ≡ get_or left 0 v → text_at xs.items n ≡ v
  text_taken n left v l rest first =
      let own : v ≡ get_or xs.items (n + 0) v = first ∙ ap (λ ys. get_or ys 0 v) rest ∙ get_or-drop n xs.items 0 v in
      let same : n + 0 ≡ n = omega arith in
      sym (get_or_read xs.items n v (subst (λ k. n < k) xs.ok.0 l) (own ∙ ap (λ k. get_or xs.items k v) same) [])

module _ (P : ℕ → Type 0) where
  -- what holds at each position below n, and at n
  pub up_to : (n : ℕ) → ((i : ℕ) → i < n → P i) → P n → (i : ℕ) → i < n + 1 → P i
  up_to n below here i l = ⊎_elim (below i) (λ (m : n ≤ i). let e : n ≡ i = omega arith in subst P e here) (cases_lt i n)

  -- at the first position
  pub at_first : P 0 → (i : ℕ) → i < 1 → P i
  at_first = up_to 0 (λ i l. absurd (omega arith))

module _ (s : Arithmetic) (ts : List (List ℕ)) where
  -- three texts read as three matrices
  pub three_read : (a b c : Sparse) → length ts ≡ 3 → Reads s (text_at ts 0) a → Reads s (text_at ts 1) b → Reads s (text_at ts 2) c
      → AreMatrices s ts (a ∷ b ∷ c ∷ [])
  three_read a b c n first second third =
      let each : ℕ → Type 0 = λ i. Reads s (text_at ts i) (matrix_at (a ∷ b ∷ c ∷ []) i) in
      (sym n, rw n (up_to each 2 (up_to each 1 (at_first each first) second) third))
