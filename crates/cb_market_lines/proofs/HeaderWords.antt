-- The words of the header and of the size line, counted.
use Rattle.std.proofs.Common.{◌≡◌, ◌≢◌, ℕ, suc, not, Bool, true, false, ◌==◌, List, [], ◌∷◌, arith, length, refl, Some}
use Rattle.std.specs.Prelude.{codes, bytes_eq, ◌&&◌, Result, IfOk, IfErr}
use Rattle.std.proofs.lemmas.Bool.{ne_eqb, and_left, and_right}
use Rattle.cb_semirings.specs.Arithmetic.{Arithmetic}
use Rattle.cb_market_lines.specs.declared.Kind.{Kind}
use Rattle.cb_market_lines.specs.declared.Kind.TheVariants.{BadHeader, Unsupported, BadSize}
use Rattle.cb_market_lines.specs.declared.header.Header.{Header}
use Rattle.cb_market_lines.specs.declared.size.Size.{Size}
use Rattle.cb_market_lines.specs.Lines.{is_number}
use Rattle.cb_market_lines.specs.Checks.{are_read, header_fault, size_fault, word, AnnouncesSize}

module _ (s : Arithmetic) (begins_blank : Bool) (ws : List (List ℕ)) where
  bad_header : (not begins_blank && (length ws == 5) && bytes_eq (word 0 ws) (codes "%%MatrixMarket")) ≡ false → header_fault s begins_blank ws ≡ Some BadHeader
  bad_header e = rw e refl

  -- a line that begins with a blank
  pub blank_header : begins_blank ≡ true → header_fault s begins_blank ws ≡ Some BadHeader
  blank_header e = bad_header (and_left (not begins_blank && (length ws == 5)) (bytes_eq (word 0 ws) (codes "%%MatrixMarket")) (and_left (not begins_blank) (length ws == 5) (rw e refl)))

  other_length : (length ws == 5) ≡ false → header_fault s begins_blank ws ≡ Some BadHeader
  other_length e = bad_header (and_left (not begins_blank && (length ws == 5)) (bytes_eq (word 0 ws) (codes "%%MatrixMarket")) (and_right (not begins_blank) (length ws == 5) e))

  -- a line without words
  pub no_header : ws ≡ [] → header_fault s begins_blank ws ≡ Some BadHeader
  no_header e = other_length (rw e refl)

  -- a line that hasn't four words after the first
  pub other_count : (first : List ℕ) (others : List (List ℕ)) → ws ≡ first ∷ others → length others ≢ 4 → header_fault s begins_blank ws ≡ Some BadHeader
  other_count first others e n = other_length (rw e (ne_eqb (suc (length others)) 5 (λ h. n (omega (arith, h)))))

  -- a line with another banner
  pub other_banner : (first : List ℕ) (others : List (List ℕ)) → ws ≡ first ∷ others → bytes_eq first (codes "%%MatrixMarket") ≡ false → header_fault s begins_blank ws ≡ Some BadHeader
  other_banner first others e b = bad_header (and_right (not begins_blank && (length ws == 5)) (bytes_eq (word 0 ws) (codes "%%MatrixMarket")) (rw e b))

  -- a header that isn't supported
  pub unsupported : (b o f w y : List ℕ) → begins_blank ≡ false → ws ≡ b ∷ o ∷ f ∷ w ∷ y ∷ [] → bytes_eq b (codes "%%MatrixMarket") ≡ true → are_read s o f w y ≡ false → header_fault s begins_blank ws ≡ Some Unsupported
  unsupported b o f w y starts e banner known = rw (starts, e) (rw banner (rw known refl))

module _ (header : Header) (first : List ℕ) (left : List (List ℕ)) where
  bad_size : ((length (first ∷ left) == 3) && is_number (word 0 (first ∷ left)) && is_number (word 1 (first ∷ left)) && is_number (word 2 (first ∷ left))) ≡ false → size_fault header (first ∷ left) ≡ Some BadSize
  bad_size e = rw e refl

  -- a size line that hasn't three words
  pub other_size : length left ≢ 2 → size_fault header (first ∷ left) ≡ Some BadSize
  other_size n =
      let ws = first ∷ left in
      let count : (length ws == 3) ≡ false = ne_eqb (suc (length left)) 3 (λ h. n (omega (arith, h))) in
      let one = and_left (length ws == 3) (is_number (word 0 ws)) count in
      let two = and_left ((length ws == 3) && is_number (word 0 ws)) (is_number (word 1 ws)) one in
      bad_size (and_left ((length ws == 3) && is_number (word 0 ws) && is_number (word 1 ws)) (is_number (word 2 ws)) two)

  -- a size line of three words
  pub size_written : (r : Result Size Kind) (second third : List ℕ) → left ≡ second ∷ third ∷ [] → IfOk r (AnnouncesSize header (first ∷ second ∷ third ∷ [])) → IfOk r (AnnouncesSize header (first ∷ left))
  size_written r second third e h = rw e h

  pub size_faulty : (r : Result Size Kind) (second third : List ℕ) → left ≡ second ∷ third ∷ [] → IfErr r (λ k. size_fault header (first ∷ second ∷ third ∷ []) ≡ Some k) → IfErr r (λ k. size_fault header (first ∷ left) ≡ Some k)
  size_faulty r second third e h = rw e h
