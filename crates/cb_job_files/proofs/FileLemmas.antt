-- Texts that are loaded one after the other.
use Rattle.std.proofs.Common.{◌≡◌, ℕ, zero, suc, ◌+◌, ◌<◌, List, [], ◌∷◌, ◌++◌, length, refl, sym, subst, arith}
use borrow.Author.Count.{below_more}
use Rattle.std.specs.Prelude.{String}
use Rattle.cb_job_files.specs.Files.{name_at}
use Rattle.cb_job_ends.specs.Texts.{text_at}
use Rattle.cb_job_files.specs.Files.{HoldsBelow, IsHeld}

-- the files before one that is refused were read
pub were_held : {A : Type 0} (holds : List ℕ → List ℕ → Type 0) (names : List (String A)) (texts : List (List ℕ)) (n : ℕ) → HoldsBelow holds names texts n → (i : ℕ) → i < n → IsHeld holds (name_at names i)
were_held holds names texts n held i h = (text_at texts i, held i h)

text_before : (xs : List (List ℕ)) (t : List ℕ) (i : ℕ) → i < length xs → text_at (xs ++ t ∷ []) i ≡ text_at xs i
text_before [] t i l = absurd (omega arith)
text_before (x ∷ xs) t zero l = refl
text_before (x ∷ xs) t (suc i) l = text_before xs t i (omega arith)

text_last : (xs : List (List ℕ)) (t : List ℕ) → text_at (xs ++ t ∷ []) (length xs) ≡ t
text_last [] t = refl
text_last (x ∷ xs) t = text_last xs t

-- one more file was read
pub held_more : {A : Type 0} (holds : List ℕ → List ℕ → Type 0) (names : List (String A)) (xs : List (List ℕ)) (t : List ℕ) (n : ℕ) → length xs ≡ n
    → HoldsBelow holds names xs n → holds (name_at names n) t → HoldsBelow holds names (xs ++ t ∷ []) (n + 1)
held_more holds names xs t n e held here =
    let last : text_at (xs ++ t ∷ []) n ≡ t = subst (λ m. text_at (xs ++ t ∷ []) m ≡ t) e (text_last xs t) in
    below_more (λ i. holds (name_at names i) (text_at (xs ++ t ∷ []) i)) n
    (λ i l. subst (holds (name_at names i)) (sym (text_before xs t i (omega (arith, e)))) (held i l))
    (subst (holds (name_at names n)) (sym last) here)
