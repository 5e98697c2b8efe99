-- Marks of rows, a bit for each row, and marks of the words of marks.
use Rattle.std.proofs.Common.{◌≡◌, ◌≢◌, ℕ, ◌+◌, ◌-◌, ◌*◌, ◌/◌, ◌%◌, ◌^◌, ◌<◌, ◌≤◌, min, bit_and, bit_or, List, length, get_or, set, sym, refl, ap, ◌∙◌, ⊎_elim, arith}
use Rattle.std.specs.Prelude.{All}
use Rattle.std.specs.Int.{bit_at, bit_not, trailing_zeros, w64}
use Rattle.std.proofs.lemmas.Bool.{cases_eq, cases_lt}
use Rattle.std.proofs.lemmas.List.{length-set, get_or-set_same, get_or-set_other, get_or_past}
use Rattle.std.proofs.lemmas.List.Elements.{All-get_or, All-weaker}
use Rattle.std.proofs.lemmas.Nat.{and_le_l}
use Rattle.std.proofs.lemmas.Nat.Bits.{bit_at-lt, bit_at-zero, bit_at_and, bit_at_mask_inside, bit_at_mask_below, ones_shl, bit_at_set_same, bit_at_set_other, bit_at_clear_same, bit_at_clear_other, bit_at_above, bit_at-trailing_zeros}
use Rattle.cb_product.specs.Marks.{mark_of, AreMarked, IsZeroOutside}

-- a row's bit is set in its word
module _ (words : List ℕ) (row : ℕ) (l : row / 64 < length words) where
  abbrev marked : List ℕ
  marked = set words (row / 64) (bit_or (get_or words (row / 64) 0) (1 * 2 ^ (row % 64) % 18446744073709551616))

  -- the row is marked
  pub mark_here : mark_of marked row ≡ 1
  mark_here = ap (λ w. bit_at w (row % 64)) (get_or-set_same words (row / 64) _ 0 l) ∙ bit_at_set_same w64 (get_or words (row / 64) 0) (row % 64) (omega arith)

  -- the marks of other rows stay the same
  pub mark_others : (i : ℕ) → i ≢ row → mark_of marked i ≡ mark_of words i
  mark_others i n = ⊎_elim
      (λ (e : i / 64 ≡ row / 64).
      let other : i % 64 ≢ row % 64 = λ m. n (omega arith) in
      ap (λ k. bit_at (get_or marked k 0) (i % 64)) e ∙ ap (λ w. bit_at w (i % 64)) (get_or-set_same words (row / 64) _ 0 l) ∙ bit_at_set_other w64 (get_or words (row / 64) 0) (row % 64) (omega arith) (i % 64) other ∙ ap (λ k. bit_at (get_or words k 0) (i % 64)) (sym e))
      (λ (e : i / 64 ≡ row / 64 → ⊥). let ne : i / 64 ≢ row / 64 = e in ap (λ w. bit_at w (i % 64)) (get_or-set_other words (row / 64) (i / 64) _ 0 ne))
      (cases_eq (i / 64) (row / 64))

  -- other words stay the same
  pub words_stay : (k : ℕ) → k ≢ row / 64 → get_or marked k 0 ≡ get_or words k 0
  words_stay k ne = get_or-set_other words (row / 64) k _ 0 ne

-- a row's bit is cleared in its word
module _ (words : List ℕ) (row : ℕ) (l : row / 64 < length words) where
  abbrev without : List ℕ
  without = set words (row / 64) (bit_and (get_or words (row / 64) 0) (bit_not w64 (1 * 2 ^ (row % 64) % 18446744073709551616)))

  -- the row isn't marked
  pub unmark_here : mark_of without row ≡ 0
  unmark_here = ap (λ w. bit_at w (row % 64)) (get_or-set_same words (row / 64) _ 0 l) ∙ bit_at_clear_same w64 (get_or words (row / 64) 0) (row % 64) (omega arith)

  -- the marks of other rows stay the same
  pub unmark_others : (i : ℕ) → i ≢ row → mark_of without i ≡ mark_of words i
  unmark_others i n = ⊎_elim
      (λ (e : i / 64 ≡ row / 64).
      let other : i % 64 ≢ row % 64 = λ m. n (omega arith) in
      ap (λ k. bit_at (get_or without k 0) (i % 64)) e ∙ ap (λ w. bit_at w (i % 64)) (get_or-set_same words (row / 64) _ 0 l) ∙ bit_at_clear_other w64 (get_or words (row / 64) 0) (row % 64) (omega arith) (i % 64) (omega arith) other ∙ ap (λ k. bit_at (get_or words k 0) (i % 64)) (sym e))
      (λ (e : i / 64 ≡ row / 64 → ⊥). let ne : i / 64 ≢ row / 64 = e in ap (λ w. bit_at w (i % 64)) (get_or-set_other words (row / 64) (i / 64) _ 0 ne))
      (cases_eq (i / 64) (row / 64))

-- the bits of a word from k on
module _ (w k : ℕ) (within : k < 64) where
  abbrev rest : ℕ
  rest = bit_and w (18446744073709551615 * 2 ^ k % 18446744073709551616)

  mask : 18446744073709551615 * 2 ^ k % 18446744073709551616 ≡ 2 ^ 64 - 2 ^ k
  mask = ones_shl 64 k (omega arith)

  least_of : (a b : ℕ) → a < 2 → b ≡ 1 → min a b ≡ a
  least_of a b l e = omega arith

  pub rest_from : (j : ℕ) → k ≤ j → j < 64 → bit_at rest j ≡ bit_at w j
  rest_from j l m = ap (λ x. bit_at (bit_and w x) j) mask ∙ bit_at_and w (2 ^ 64 - 2 ^ k) j ∙ least_of (bit_at w j) (bit_at (2 ^ 64 - 2 ^ k) j) (bit_at-lt w j) (bit_at_mask_inside k 64 j l m)

  pub rest_below : (j : ℕ) → j < k → bit_at rest j ≡ 0
  rest_below j l = let b = bit_at_mask_below k 64 j l in ap (λ x. bit_at (bit_and w x) j) mask ∙ bit_at_and w (2 ^ 64 - 2 ^ k) j ∙ (let z : min (bit_at w j) (bit_at (2 ^ 64 - 2 ^ k) j) ≡ 0 = omega arith in z)

-- the first mark in a word
module _ (words : List ℕ) (from : ℕ) (fits : get_or words (from / 64) 0 < 18446744073709551616) where
  -- the marks in the word of this row, from the row on
  abbrev pub ahead : ℕ
  ahead = rest (get_or words (from / 64) 0) (from % 64) (omega arith)

  module _ (some : 0 < ahead) where
    abbrev t : ℕ
    t = trailing_zeros w64 ahead

    abbrev at : ℕ
    at = from / 64 * 64 + t

    found : (t < 64) × (bit_at ahead t ≡ 1) × ((i : ℕ) → i < t → bit_at ahead i ≡ 0)
    found = bit_at-trailing_zeros w64 ahead some (let b = and_le_l (get_or words (from / 64) 0) (18446744073709551615 * 2 ^ (from % 64) % 18446744073709551616) in omega arith)

    not_below : from % 64 ≤ t
    not_below = ⊎_elim
        (λ (l : t < from % 64). let z = rest_below (get_or words (from / 64) 0) (from % 64) (omega arith) t l in let o = found.1 in absurd (omega arith))
        (λ (l : from % 64 ≤ t). l)
        (cases_lt t (from % 64))

    -- the lowest of them marks this row or a later one
    pub found_from : from ≤ at
    found_from = let b = not_below in omega arith

    -- its row is marked
    pub found_marked : mark_of words at ≡ 1
    found_marked =
        let l = found.0 in
        let q : at / 64 ≡ from / 64 = omega arith in
        let r : at % 64 ≡ t = omega arith in
        (λ z. bit_at (get_or words (q z) 0) (r z)) ∙ sym (rest_from (get_or words (from / 64) 0) (from % 64) (omega arith) t not_below l) ∙ found.1

    -- no row between the two is marked
    pub found_first : (i : ℕ) → from ≤ i → i < at → mark_of words i ≡ 0
    found_first i a b =
        let l = found.0 in
        let q : i / 64 ≡ from / 64 = omega arith in
        let k : from % 64 ≤ i % 64 = omega arith in
        let m : i % 64 < t = omega arith in
        ap (λ n. bit_at (get_or words n 0) (i % 64)) q ∙ sym (rest_from (get_or words (from / 64) 0) (from % 64) (omega arith) (i % 64) k (omega arith)) ∙ found.2 (i % 64) m

-- if the first word has no mark from the row on, later words may have one
pub none_in_first : (words : List ℕ) (from : ℕ) → rest (get_or words (from / 64) 0) (from % 64) (omega arith) ≡ 0 → (i : ℕ) → from ≤ i → i < (from / 64 + 1) * 64 → mark_of words i ≡ 0
none_in_first words from none i a b =
    let q : i / 64 ≡ from / 64 = omega arith in
    ap (λ n. bit_at (get_or words n 0) (i % 64)) q ∙ sym (rest_from (get_or words (from / 64) 0) (from % 64) (omega arith) (i % 64) (omega arith) (omega arith)) ∙ ap (λ w. bit_at w (i % 64)) none ∙ bit_at-zero (i % 64)

-- a word of zero marks no row
pub none_in_word : (words : List ℕ) (n : ℕ) → get_or words n 0 ≡ 0 → (i : ℕ) → i / 64 ≡ n → mark_of words i ≡ 0
none_in_word words n none i q = ap (λ k. bit_at (get_or words k 0) (i % 64)) q ∙ ap (λ w. bit_at w (i % 64)) none ∙ bit_at-zero (i % 64)

-- rows past the last word have no mark
pub none_past : (words : List ℕ) (i : ℕ) → length words ≤ i / 64 → mark_of words i ≡ 0
none_past words i l = ap (λ w. bit_at w (i % 64)) (get_or_past words (i / 64) 0 l) ∙ bit_at-zero (i % 64)

-- the first mark in a later word
module _ (words : List ℕ) (from n : ℕ) (fits : get_or words n 0 < 18446744073709551616) (some : get_or words n 0 ≢ 0) (before : (i : ℕ) → from ≤ i → i < n * 64 → mark_of words i ≡ 0) where
  abbrev u : ℕ
  u = trailing_zeros w64 (get_or words n 0)

  later : (u < 64) × (bit_at (get_or words n 0) u ≡ 1) × ((i : ℕ) → i < u → bit_at (get_or words n 0) i ≡ 0)
  later = bit_at-trailing_zeros w64 (get_or words n 0) (let s = some in omega arith) fits

  -- the row of the word's lowest bit is marked
  pub later_marked : mark_of words (n * 64 + u) ≡ 1
  later_marked =
      let l = later.0 in
      let q : (n * 64 + u) / 64 ≡ n = omega arith in
      let r : (n * 64 + u) % 64 ≡ u = omega arith in
      (λ z. bit_at (get_or words (q z) 0) (r z)) ∙ later.1

  -- no row before it is marked
  pub later_first : (i : ℕ) → from ≤ i → i < n * 64 + u → mark_of words i ≡ 0
  later_first i a b =
      let l = later.0 in
      ⊎_elim
      (λ (m : i < n * 64). before i a m)
      (λ (m : n * 64 ≤ i).
      let q : i / 64 ≡ n = omega arith in
      let r : i % 64 < u = omega arith in
      ap (λ k. bit_at (get_or words k 0) (i % 64)) q ∙ later.2 (i % 64) r)
      (cases_lt i (n * 64))

-- ---- sums and their marks
-- if all words are zero, no row is marked
pub none_at_all : (words : List ℕ) → All (λ word. word ≡ 0) words → (i : ℕ) → mark_of words i ≡ 0
none_at_all words none i = ⊎_elim
    (λ (l : i / 64 < length words). none_in_word words (i / 64) (All-get_or (λ word. word ≡ 0) words (i / 64) 0 l none) i refl)
    (λ (l : length words ≤ i / 64). none_past words i l)
    (cases_lt (i / 64) (length words))

-- a list of copies of one element has it at each place, and past its end as the default
pub all_same : (z : ℕ) (xs : List ℕ) → All (λ x. x ≡ z) xs → (i : ℕ) → get_or xs i z ≡ z
all_same z xs h i = ⊎_elim
    (λ (l : i < length xs). All-get_or (λ x. x ≡ z) xs i z l h)
    (λ (l : length xs ≤ i). get_or_past xs i z l)
    (cases_lt i (length xs))

-- sums of zero need no marks
pub marked_none : (z : ℕ) (sums marks groups : List ℕ) → All (λ x. x ≡ z) sums → All (λ word. word ≡ 0) marks → All (λ word. word ≡ 0) groups → length sums < 2 ^ 32 → length marks ≡ length sums / 64 + 1 → length groups ≡ length sums / 4096 + 1 → AreMarked z sums marks groups
marked_none z sums marks groups zeros none none_too limit long groups_long = record {
  room = omega arith;
  groups_room = omega arith;
  limit = limit;
  groups_limit = omega arith;
  inside = λ i past. none_at_all marks none i;
  groups_inside = λ i past. none_at_all groups none_too i;
  unmarked = λ i e. all_same z sums zeros i;
  no_group = λ n e. all_same 0 marks none n;
}

-- a row whose sum isn't zero is marked
pub known_mark : (z : ℕ) (sums marks groups : List ℕ) → AreMarked z sums marks groups → (i : ℕ) → get_or sums i z ≢ z → mark_of marks i ≡ 1
known_mark z sums marks groups m i some =
    let below = bit_at-lt (get_or marks (i / 64) 0) (i % 64) in
    ⊎_elim
    (λ (e : mark_of marks i ≡ 0). absurd (some (m.unmarked i e)))
    (λ (e : mark_of marks i ≡ 0 → ⊥). let ne : mark_of marks i ≢ 0 = e in omega arith)
    (cases_eq (mark_of marks i) 0)

-- a row is marked, and so is the word with its mark
module _ (z : ℕ) (sums marks groups marks' groups' : List ℕ) (row x : ℕ) (m : AreMarked z sums marks groups) (l : row < length sums)
    (long : length marks' ≡ length marks) (here : mark_of marks' row ≡ 1) (others : (i : ℕ) → i ≢ row → mark_of marks' i ≡ mark_of marks i) (words : (k : ℕ) → k ≢ row / 64 → get_or marks' k 0 ≡ get_or marks k 0)
    (groups_long : length groups' ≡ length groups) (groups_here : mark_of groups' (row / 64) ≡ 1) (groups_others : (i : ℕ) → i ≢ row / 64 → mark_of groups' i ≡ mark_of groups i) where
  -- after a row's sum is set and the row is marked, all sums other than zero are marked
  pub marked_more : AreMarked z (set sums row x) marks' groups'
  marked_more =
      let room = m.room in
      let groups_room = m.groups_room in
      let limit = m.limit in
      let groups_limit = m.groups_limit in
      let same = length-set sums row x in
      record {
        room = omega arith;
        groups_room = omega arith;
        limit = omega arith;
        groups_limit = omega arith;
        inside = λ i past. others i (omega arith) ∙ m.inside i (omega arith);
        groups_inside = λ i past. groups_others i (omega arith) ∙ m.groups_inside i (omega arith);
        unmarked = λ i none. ⊎_elim
            (λ (e : i ≡ row). let one : mark_of marks' i ≡ 1 = ap (mark_of marks') e ∙ here in absurd (omega arith))
            (λ (e : i ≡ row → ⊥). let ne : i ≢ row = e in get_or-set_other sums row i x z ne ∙ m.unmarked i (sym (others i ne) ∙ none))
            (cases_eq i row);
        no_group = λ n none. ⊎_elim
            (λ (e : n ≡ row / 64). let one : mark_of groups' n ≡ 1 = ap (mark_of groups') e ∙ groups_here in absurd (omega arith))
            (λ (e : n ≡ row / 64 → ⊥). let ne : n ≢ row / 64 = e in words n ne ∙ m.no_group n (sym (groups_others n ne) ∙ none))
            (cases_eq n (row / 64));
      }

-- a marked row is one of the rows
pub marked_inside : (z : ℕ) (sums marks groups : List ℕ) (row : ℕ) → AreMarked z sums marks groups → mark_of marks row ≡ 1 → row < length sums
marked_inside z sums marks groups row m one = ⊎_elim (λ (l : row < length sums). l) (λ (l : length sums ≤ row). let none = m.inside row l in absurd (omega arith)) (cases_lt row (length sums))

-- a marked word is one of the words
pub group_inside : (z : ℕ) (sums marks groups : List ℕ) (n : ℕ) → AreMarked z sums marks groups → mark_of groups n ≡ 1 → n < length marks
group_inside z sums marks groups n m one = ⊎_elim (λ (l : n < length marks). l) (λ (l : length marks ≤ n). let none = m.groups_inside n l in absurd (omega arith)) (cases_lt n (length marks))

-- the row that a bit of the n-th word marks is one of the rows
pub bit_inside : (z : ℕ) (sums marks groups : List ℕ) (n k : ℕ) → AreMarked z sums marks groups → get_or marks n 0 < 18446744073709551616 → bit_at (get_or marks n 0) k ≡ 1 → n * 64 + k < length sums
bit_inside z sums marks groups n k m fits one =
    let small : k < 64 = ⊎_elim (λ (l : k < 64). l) (λ (l : 64 ≤ k). let none = bit_at_above (get_or marks n 0) 64 k fits l in absurd (omega arith)) (cases_lt k 64) in
    let q : (n * 64 + k) / 64 ≡ n = omega arith in
    let r : (n * 64 + k) % 64 ≡ k = omega arith in
    marked_inside z sums marks groups (n * 64 + k) m ((λ t. bit_at (get_or marks (q t) 0) (r t)) ∙ one)

-- ---- words whose sums are moved
module _ (z : ℕ) (sums new marks groups : List ℕ) (n : ℕ) (m : AreMarked z sums marks groups) (long : length new ≡ length sums) (stay : (i : ℕ) → get_or sums i z ≡ z → get_or new i z ≡ z) where
  -- some sums become zero
  pub marked_fewer : AreMarked z new marks groups
  marked_fewer =
      let room = m.room in
      let limit = m.limit in
      record {
        room = omega arith;
        groups_room = m.groups_room;
        limit = omega arith;
        groups_limit = m.groups_limit;
        inside = λ i past. m.inside i (omega arith);
        groups_inside = m.groups_inside;
        unmarked = λ i none. stay i (m.unmarked i none);
        no_group = m.no_group;
      }

  -- all sums that the n-th word marks become zero
  pub marked_without : ((k : ℕ) → bit_at (get_or marks n 0) k ≡ 1 → get_or new (n * 64 + k) z ≡ z) → n < length marks → AreMarked z new (set marks n 0) groups
  marked_without taken l =
      let room = m.room in
      let limit = m.limit in
      let groups_room = m.groups_room in
      let same = length-set marks n 0 in
      record {
        room = omega arith;
        groups_room = omega arith;
        limit = omega arith;
        groups_limit = m.groups_limit;
        inside = λ i past. ⊎_elim
            (λ (e : i / 64 ≡ n). none_in_word (set marks n 0) n (get_or-set_same marks n 0 0 l) i e)
            (λ (e : i / 64 ≡ n → ⊥). let ne : i / 64 ≢ n = e in ap (λ w. bit_at w (i % 64)) (get_or-set_other marks n (i / 64) 0 0 ne) ∙ m.inside i (omega arith))
            (cases_eq (i / 64) n);
        groups_inside = λ i past. m.groups_inside i (omega arith);
        unmarked = λ i none. ⊎_elim
            (λ (e : i / 64 ≡ n).
            let i_is : n * 64 + i % 64 ≡ i = omega arith in
            ⊎_elim
            (λ (b : bit_at (get_or marks n 0) (i % 64) ≡ 1). ap (λ k. get_or new k z) (sym i_is) ∙ taken (i % 64) b)
            (λ (b : bit_at (get_or marks n 0) (i % 64) ≡ 1 → ⊥). let o : bit_at (get_or marks n 0) (i % 64) ≢ 1 = b in let below = bit_at-lt (get_or marks n 0) (i % 64) in let zero_bit : bit_at (get_or marks n 0) (i % 64) ≡ 0 = omega arith in stay i (m.unmarked i (ap (λ k. bit_at (get_or marks k 0) (i % 64)) e ∙ zero_bit)))
            (cases_eq (bit_at (get_or marks n 0) (i % 64)) 1))
            (λ (e : i / 64 ≡ n → ⊥). let ne : i / 64 ≢ n = e in stay i (m.unmarked i (sym (ap (λ w. bit_at w (i % 64)) (get_or-set_other marks n (i / 64) 0 0 ne)) ∙ none)))
            (cases_eq (i / 64) n);
        no_group = λ k none. ⊎_elim
            (λ (e : k ≡ n). ap (λ j. get_or (set marks n 0) j 0) e ∙ get_or-set_same marks n 0 0 l)
            (λ (e : k ≡ n → ⊥). let ne : k ≢ n = e in get_or-set_other marks n k 0 0 ne ∙ m.no_group k none)
            (cases_eq k n);
      }

-- if each word of marks is zero, so is each sum
pub all_taken : (z : ℕ) (sums marks groups : List ℕ) → AreMarked z sums marks groups → ((k : ℕ) → get_or groups k 0 ≡ 0) → (i : ℕ) → get_or sums i z ≡ z
all_taken z sums marks groups m none i =
    let word : get_or marks (i / 64) 0 ≡ 0 = m.no_group (i / 64) (none_in_word groups (i / 64 / 64) (none (i / 64 / 64)) (i / 64) refl) in
    m.unmarked i (none_in_word marks (i / 64) word i refl)

-- ---- the lowest bit of a word is removed
module _ (w : ℕ) (fits : w < 18446744073709551616) (some : 0 < w) where
  abbrev low : ℕ
  low = trailing_zeros w64 w

  -- the word without its lowest bit
  abbrev pub without_low : ℕ
  without_low = bit_and w (bit_not w64 (1 * 2 ^ low % 18446744073709551616))

  found_low : (low < 64) × (bit_at w low ≡ 1) × ((i : ℕ) → i < low → bit_at w i ≡ 0)
  found_low = bit_at-trailing_zeros w64 w some fits

  -- the lowest bit is one of the 64
  pub low_within : low < 64
  low_within = found_low.0

  -- the word has this bit
  pub low_set : bit_at w low ≡ 1
  low_set = found_low.1

  cleared : bit_at without_low low ≡ 0
  cleared = bit_at_clear_same w64 w low low_within

  -- without it the word is smaller
  pub without_low-less : without_low < w
  without_low-less =
      let le = and_le_l w (bit_not w64 (1 * 2 ^ low % 18446744073709551616)) in
      ⊎_elim
      (λ (e : without_low ≡ w). let a : bit_at w low ≡ 0 = ap (λ x. bit_at x low) (sym e) ∙ cleared in let b = low_set in absurd (omega arith))
      (λ (e : without_low ≡ w → ⊥). let ne : without_low ≢ w = e in omega arith)
      (cases_eq without_low w)

  above : (k : ℕ) → 64 ≤ k → bit_at w k ≡ 0
  above k l = bit_at_above w 64 k fits l

  -- a bit that is left was in the word, and is higher
  pub left_bit : (k : ℕ) → bit_at without_low k ≡ 1 → (k < 64) × (bit_at w k ≡ 1) × (low < k)
  left_bit k one =
      let le = and_le_l w (bit_not w64 (1 * 2 ^ low % 18446744073709551616)) in
      let small : k < 64 = ⊎_elim (λ (l : k < 64). l) (λ (l : 64 ≤ k). let z = bit_at_above without_low 64 k (let b : without_low < 2 ^ 64 = omega arith in b) l in absurd (omega arith)) (cases_lt k 64) in
      let ne : k ≢ low = λ e. (let z : bit_at without_low k ≡ 0 = ap (bit_at without_low) e ∙ cleared in absurd (omega arith)) in
      let there : bit_at w k ≡ 1 = sym (bit_at_clear_other w64 w low low_within k small ne) ∙ one in
      (small, there, ⊎_elim (λ (l : k < low). let z = found_low.2 k l in absurd (omega arith)) (λ (l : low ≤ k). let d : low < k = omega arith in d) (cases_lt k low))

  -- a bit that isn't left wasn't in the word, or was the lowest
  pub gone_bit : (k : ℕ) → bit_at without_low k ≡ 0 → bit_at w k ≡ 1 → k ≡ low
  gone_bit k none one =
      let small : k < 64 = ⊎_elim (λ (l : k < 64). l) (λ (l : 64 ≤ k). let z = above k l in absurd (omega arith)) (cases_lt k 64) in
      ⊎_elim (λ (e : k ≡ low). e) (λ (e : k ≡ low → ⊥). let ne : k ≢ low = e in let z = sym (bit_at_clear_other w64 w low low_within k small ne) ∙ none in absurd (omega arith)) (cases_eq k low)

-- ---- the lowest mark of a word of groups
module _ (z : ℕ) (sums marks groups : List ℕ) (n w : ℕ) (m : AreMarked z sums marks groups) (l : n < length groups) (is : get_or groups n 0 ≡ w) (fits : w < 18446744073709551616) (some : 0 < w) where
  abbrev word : ℕ
  word = n * 64 + trailing_zeros w64 w

  q : word / 64 ≡ n
  q = let s = low_within w fits some in omega arith

  r : word % 64 ≡ trailing_zeros w64 w
  r = let s = low_within w fits some in omega arith

  -- the word of marks is marked
  lowest_marked : mark_of groups word ≡ 1
  lowest_marked = (λ t. bit_at (get_or groups (q t) 0) (r t)) ∙ ap (λ x. bit_at x (trailing_zeros w64 w)) is ∙ low_set w fits some

  -- it is one of the words
  pub lowest_inside : word < length marks
  lowest_inside = group_inside z sums marks groups word m lowest_marked

  abbrev without_word : List ℕ
  without_word = set groups n (without_low w fits some)

  word_gone : mark_of without_word word ≡ 0
  word_gone = (λ t. bit_at (get_or without_word (q t) 0) (r t)) ∙ ap (λ x. bit_at x (trailing_zeros w64 w)) (get_or-set_same groups n _ 0 l) ∙ bit_at_clear_same w64 w (trailing_zeros w64 w) (low_within w fits some)

  words_left : (j : ℕ) → j ≢ word → mark_of without_word j ≡ mark_of groups j
  words_left j ne = ⊎_elim
      (λ (e : j / 64 ≡ n).
      let other : j % 64 ≢ trailing_zeros w64 w = λ t. ne (omega arith) in
      ap (λ k. bit_at (get_or without_word k 0) (j % 64)) e ∙ ap (λ x. bit_at x (j % 64)) (get_or-set_same groups n _ 0 l) ∙ bit_at_clear_other w64 w (trailing_zeros w64 w) (low_within w fits some) (j % 64) (omega arith) other ∙ ap (λ x. bit_at x (j % 64)) (sym is) ∙ ap (λ k. bit_at (get_or groups k 0) (j % 64)) (sym e))
      (λ (e : j / 64 ≡ n → ⊥). let far : j / 64 ≢ n = e in ap (λ x. bit_at x (j % 64)) (get_or-set_other groups n (j / 64) _ 0 far))
      (cases_eq (j / 64) n)

  -- if the word of marks is zero, its mark can be removed
  pub lowest_removed : get_or marks word 0 ≡ 0 → AreMarked z sums marks without_word
  lowest_removed none =
      let same = length-set groups n (without_low w fits some) in
      let groups_room = m.groups_room in
      let groups_limit = m.groups_limit in
      record {
        room = m.room;
        groups_room = omega arith;
        limit = m.limit;
        groups_limit = omega arith;
        inside = m.inside;
        groups_inside = λ j past. ⊎_elim (λ (e : j ≡ word). ap (mark_of without_word) e ∙ word_gone) (λ (e : j ≡ word → ⊥). words_left j e ∙ m.groups_inside j past) (cases_eq j word);
        unmarked = m.unmarked;
        no_group = λ j gone. ⊎_elim (λ (e : j ≡ word). ap (λ k. get_or marks k 0) e ∙ none) (λ (e : j ≡ word → ⊥). m.no_group j (sym (words_left j e) ∙ gone)) (cases_eq j word);
      }

-- ---- words that are zero outside a range
-- they stay so if one inside changes
pub zero_still : (first end n : ℕ) (old new : List ℕ) → first ≤ n → n < end → ((k : ℕ) → k ≢ n → get_or new k 0 ≡ get_or old k 0) → IsZeroOutside first end old → IsZeroOutside first end new
zero_still first end n old new a b others h = record {
  before = λ k l. others k (omega arith) ∙ h.before k l;
  after = λ k l. others k (omega arith) ∙ h.after k l;
}

-- they are all zero if those before the range's end are
pub all_zero : (first end n : ℕ) (words : List ℕ) → min end (length words) ≤ n → ((k : ℕ) → k < n → get_or words k 0 ≡ 0) → IsZeroOutside first end words → (k : ℕ) → get_or words k 0 ≡ 0
all_zero first end n words past passed h k = ⊎_elim
    (λ (a : k < n). passed k a)
    (λ (a : n ≤ k). ⊎_elim (λ (b : k < end). get_or_past words k 0 (omega arith)) (λ (b : end ≤ k). h.after k b) (cases_lt k end))
    (cases_lt k n)

-- they stay so where the range becomes wider, if all words that change are of some rows and the range contains those
pub zero_wider : (first end first' end' : ℕ) (old new rows : List ℕ) → ((k : ℕ) → All (λ i. i / 4096 ≢ k) rows → get_or new k 0 ≡ get_or old k 0) → first' ≤ first → end ≤ end' → All (λ i. (first' ≤ i / 4096) × (i / 4096 < end')) rows → IsZeroOutside first end old → IsZeroOutside first' end' new
zero_wider first end first' end' old new rows others a b inside h = record {
  before = λ k l. others k (All-weaker (λ i. (first' ≤ i / 4096) × (i / 4096 < end')) (λ i. i / 4096 ≢ k) (λ i p e. (let q = p.0 in absurd (omega arith))) rows inside) ∙ h.before k (omega arith);
  after = λ k l. others k (All-weaker (λ i. (first' ≤ i / 4096) × (i / 4096 < end')) (λ i. i / 4096 ≢ k) (λ i p e. (let q = p.1 in absurd (omega arith))) rows inside) ∙ h.after k (omega arith);
}
