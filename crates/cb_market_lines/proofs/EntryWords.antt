-- The words of the line of an entry, counted one by one.
use Rattle.std.proofs.Common.{◌≡◌, ℕ, suc, arith, List, [], ◌∷◌, length, ap, sym, subst, refl, true, false, ◌==◌, Option, Some, None}
use Rattle.std.proofs.lemmas.Bool.{ne_eqb}
use Rattle.std.specs.Prelude.{Result, IfOk, IfErr, MatchOption, is_some}
use Rattle.cb_semirings.specs.Arithmetic.{Arithmetic}
use Rattle.cb_matrix.specs.Sparse.{Extent}
use Rattle.cb_matrix.specs.declared.Entry.{Entry}
use Rattle.cb_market_lines.specs.declared.Kind.{Kind}
use Rattle.cb_market_lines.specs.declared.Kind.TheVariants.{BadLine}
use Rattle.cb_market_lines.specs.declared.header.Field.{Field}
use Rattle.cb_market_lines.specs.declared.header.Field.TheVariants.{Integer, Pattern}
use Rattle.cb_market_lines.specs.declared.header.Header.{Header}
use Rattle.cb_market_lines.specs.Checks.{words_wanted, integers, patterns, WritesEntry, HasEntryFault}

-- a word that was found is the first of those that were left
pub first_left : {A : Type 0} (o : Option A) (word_of : A → List ℕ) (left rest : List (List ℕ)) → is_some o ≡ true → MatchOption o (left ≡ []) (λ a. left ≡ word_of a ∷ rest) → (w : List ℕ) × (left ≡ w ∷ rest)
first_left None word_of left rest e h = cc
first_left (Some a) word_of left rest e h = (word_of a, h)

-- if no word was found, none was left
pub none_left : {A : Type 0} (o : Option A) (word_of : A → List ℕ) (left rest : List (List ℕ)) → is_some o ≡ false → MatchOption o (left ≡ []) (λ a. left ≡ word_of a ∷ rest) → left ≡ []
none_left None word_of left rest e h = h
none_left (Some a) word_of left rest e h = cc

one_wanted : (field : Field) → (1 == words_wanted field) ≡ false
one_wanted Integer = refl
one_wanted Pattern = refl

module _ (s : Arithmetic) (header : Header) (shape : Extent) (first : List ℕ) where
  bad_line : (ws : List (List ℕ)) → (length ws == words_wanted header.field) ≡ false → HasEntryFault s header shape ws BadLine
  bad_line ws e = rw e

  -- a line of one word
  pub one_word : (left : List (List ℕ)) → left ≡ [] → HasEntryFault s header shape (first ∷ left) BadLine
  one_word left e = bad_line (first ∷ left) (rw e (one_wanted header.field))

  -- a line of two words, where three are wanted
  pub two_words : (second : List ℕ) (left rest : List (List ℕ)) → header.field ≡ Integer → left ≡ second ∷ rest → rest ≡ [] → HasEntryFault s header shape (first ∷ left) BadLine
  two_words second left rest field e f = bad_line (first ∷ left) (rw (field, e, f) refl)

  -- a line of four words or more, where three are wanted
  pub four_words : (second third : List ℕ) (left more rest : List (List ℕ)) (last : List (List ℕ)) → header.field ≡ Integer → left ≡ second ∷ more → more ≡ third ∷ rest → ((w : List ℕ) × (rest ≡ w ∷ last)) → HasEntryFault s header shape (first ∷ left) BadLine
  four_words second third left more rest last field e f found = bad_line (first ∷ left) (rw (field, e, f, found.1) (ne_eqb (suc (suc (suc (suc (length last))))) 3 (omega arith)))

  -- a line of three words or more, where two are wanted
  pub three_words : (second : List ℕ) (left rest last : List (List ℕ)) → header.field ≡ Pattern → left ≡ second ∷ rest → ((w : List ℕ) × (rest ≡ w ∷ last)) → HasEntryFault s header shape (first ∷ left) BadLine
  three_words second left rest last field e found = bad_line (first ∷ left) (rw (field, e, found.1) (ne_eqb (suc (suc (suc (length last)))) 2 (omega arith)))

  -- three words with a value
  pub integer_written : (r : Result Entry Kind) (second third : List ℕ) (left more rest : List (List ℕ)) → header.field ≡ Integer → left ≡ second ∷ more → more ≡ third ∷ rest → rest ≡ [] → IfOk r (WritesEntry s (integers header.symmetry) shape (first ∷ second ∷ third ∷ [])) → IfOk r (WritesEntry s header shape (first ∷ left))
  integer_written r second third left more rest field e f none h =
      let header_is : header ≡ integers header.symmetry = ap (λ (x : Field). record { field = x; symmetry = header.symmetry }) field in
      rw (e, f, none) (subst (λ (d : Header). IfOk r (WritesEntry s d shape (first ∷ second ∷ third ∷ []))) (sym header_is) h)

  pub integer_faulty : (r : Result Entry Kind) (second third : List ℕ) (left more rest : List (List ℕ)) → header.field ≡ Integer → left ≡ second ∷ more → more ≡ third ∷ rest → rest ≡ [] → IfErr r (HasEntryFault s (integers header.symmetry) shape (first ∷ second ∷ third ∷ [])) → IfErr r (HasEntryFault s header shape (first ∷ left))
  integer_faulty r second third left more rest field e f none h =
      let header_is : header ≡ integers header.symmetry = ap (λ (x : Field). record { field = x; symmetry = header.symmetry }) field in
      rw (e, f, none) (subst (λ (d : Header). IfErr r (HasEntryFault s d shape (first ∷ second ∷ third ∷ []))) (sym header_is) h)

  -- two words without a value
  pub pattern_written : (r : Result Entry Kind) (second : List ℕ) (left rest : List (List ℕ)) → header.field ≡ Pattern → left ≡ second ∷ rest → rest ≡ [] → IfOk r (WritesEntry s (patterns header.symmetry) shape (first ∷ second ∷ [])) → IfOk r (WritesEntry s header shape (first ∷ left))
  pattern_written r second left rest field e none h =
      let header_is : header ≡ patterns header.symmetry = ap (λ (x : Field). record { field = x; symmetry = header.symmetry }) field in
      rw (e, none) (subst (λ (d : Header). IfOk r (WritesEntry s d shape (first ∷ second ∷ []))) (sym header_is) h)

  pub pattern_faulty : (r : Result Entry Kind) (second : List ℕ) (left rest : List (List ℕ)) → header.field ≡ Pattern → left ≡ second ∷ rest → rest ≡ [] → IfErr r (HasEntryFault s (patterns header.symmetry) shape (first ∷ second ∷ [])) → IfErr r (HasEntryFault s header shape (first ∷ left))
  pattern_faulty r second left rest field e none h =
      let header_is : header ≡ patterns header.symmetry = ap (λ (x : Field). record { field = x; symmetry = header.symmetry }) field in
      rw (e, none) (subst (λ (d : Header). IfErr r (HasEntryFault s d shape (first ∷ second ∷ []))) (sym header_is) h)
