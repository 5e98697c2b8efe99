-- A step of the merge by a heap: an entry with the least row is taken from its head.
use Rattle.std.proofs.Common.{◌≡◌, ℕ, suc, ◌+◌, ◌-◌, ◌<◌, ◌≤◌, true, false, cond, List, [], ◌∷◌, length, take, drop, get_or, sym, ap, ◌∙◌, ⊎_elim, arith, subst}
use Rattle.std.specs.Prelude.{All, AllPairs, IsPermutation, ◌==◌, slice_range}
use Rattle.std.proofs.lemmas.List.Sums.{sum_by-cons}
use Rattle.std.specs.Ordering.{is_lt, nat_cmp}
use Rattle.std.specs.BinaryHeap.{IsUpperBound}
use Rattle.std.proofs.lemmas.Bool.{cases_eq, eq-eqb, ne_eqb}
use Rattle.std.proofs.lemmas.Bool.Decides.{nat_tests}
use Rattle.std.proofs.lemmas.List.{drop_more}
use Rattle.std.proofs.lemmas.List.Elements.{All-head, All-tail, All-cons, All-take, All-drop, All-weaker, All-from_recursion, All-get_or}
use Rattle.std.proofs.lemmas.List.Sorted.{All-permutation, sum_by-IsPermutation}
use Rattle.cb_semirings.specs.Arithmetic.{Arithmetic, IsValue, IsSemiring}
use Rattle.cb_matrix.specs.Values.{total}
use Rattle.cb_matrix.proofs.Totals.{add_zero}
use Rattle.cb_matrix.proofs.Pairs.{AllPairs-head, AllPairs-tail}
use Rattle.cb_product.specs.declared.heads.Head.{Head}
use Rattle.cb_product.specs.declared.terms.Term.{Term}
use Rattle.cb_dcsc.specs.Columns.{row_value}
use Rattle.cb_product.specs.SparseColumn.{one_value}
use Rattle.cb_product.specs.Heads.{head_value, heads_value, entries_left, IsHead, Gives, by_row}
use Rattle.cb_product.specs.Terms.{term_value, terms_value, IsTerm}
use Rattle.cb_matrix.proofs.Permuted.{sum-permutation, sum_value, swap_two}
use Rattle.cb_product.proofs.RowValues.{row_value-above, row_value-value, one_value-value, one_value-add}
use Rattle.cb_product.proofs.TermSums.{terms_value-value, terms_value-rest, terms_value-end}

pub range_first : (xs : List ℕ) (a b d : ℕ) → a < b → b ≤ length xs → slice_range xs a b ≡ get_or xs a d ∷ slice_range xs (a + 1) b
range_first xs a b d l m =
    let n : b - a ≡ suc (b - (a + 1)) = omega arith in
    ap (λ k. take k (drop a xs)) n ∙ ap (take (suc (b - (a + 1)))) (drop_more xs a d (omega arith))

range_none : (xs : List ℕ) (a b : ℕ) → b ≤ a → slice_range xs a b ≡ []
range_none xs a b l = let n : b - a ≡ 0 = omega arith in ap (λ k. take k (drop a xs)) n

left_same : (xs ys : List Head) → IsPermutation xs ys → entries_left xs ≡ entries_left ys
left_same xs ys moved = sym (sum_by-IsPermutation (λ (h : Head). h.end - h.at) xs ys moved)

-- a head for each term
pub head_of_term : (s : Arithmetic) (rows : List ℕ) (t : Term) (row : ℕ) → IsTerm s rows t → row ≡ get_or rows t.at 0 → IsHead s rows (record { row = row; at = t.at; end = t.end; scale = t.scale })
head_of_term s rows t row is e = record { some = is.some; within = is.within; row = e; ascending = is.ascending; scale = is.scale }

module _ (s : Arithmetic) (laws : IsSemiring s) (rows values : List ℕ) (same_length : length values ≡ length rows) (all_values : All (IsValue s) values) where
  pub value_of : (i : ℕ) (h : Head) → IsValue s h.scale → IsValue s (head_value s rows values i h)
  value_of i h v = laws.mul_value _ _ (row_value-value s laws (slice_range rows h.at h.end) (slice_range values h.at h.end) i (All-take (IsValue s) (h.end - h.at) (drop h.at values) (All-drop (IsValue s) h.at values all_values))) v

  pub all_scaled : (i : ℕ) (hs : List Head) → All (IsHead s rows) hs → All (λ h. IsValue s (head_value s rows values i h)) hs
  all_scaled i hs k = All-weaker (IsHead s rows) (λ h. IsValue s (head_value s rows values i h)) (λ h is. value_of i h is.scale) hs k

  -- the sum of the entries left in heads is a value
  pub heads_value-value : (i : ℕ) (hs : List Head) → All (IsHead s rows) hs → IsValue s (heads_value s rows values i hs)
  heads_value-value i hs is = sum_value s laws (head_value s rows values i) hs (all_scaled i hs is)

  no_heads : (i : ℕ) (hs : List Head) → hs ≡ [] → heads_value s rows values i hs ≡ s.zero
  unfolding total
  no_heads i hs e = ap (heads_value s rows values i) e

  -- without heads it is zero
  pub nothing_left : (hs : List Head) → hs ≡ [] → (i : ℕ) → heads_value s rows values i hs ≡ s.zero
  nothing_left hs e i = no_heads i hs e

  -- two entries at the same row add up to one
  pub same_row : (row sum v i : ℕ) (new : List Head) → IsValue s sum → IsValue s v → All (IsHead s rows) new → s.add (one_value s.zero (row, sum) i) (s.add (one_value s.zero (row, v) i) (heads_value s rows values i new)) ≡ s.add (one_value s.zero (row, s.add sum v) i) (heads_value s rows values i new)
  same_row row sum v i new is_sum is_v heads = sym (laws.add_assoc _ _ _ (one_value-value s laws (row, sum) i is_sum) (one_value-value s laws (row, v) i is_v) (heads_value-value i new heads)) ∙ ap (λ x. s.add x (heads_value s rows values i new)) (one_value-add s laws row sum v i)

  -- without terms there are no heads
  pub heads_start : (hs : List Head) (ts : List Term) → All (IsTerm s rows) ts → hs ≡ [] → (i : ℕ) → s.add (heads_value s rows values i hs) (terms_value s rows values i ts) ≡ terms_value s rows values i ts
  heads_start hs ts is e i = ap (λ x. s.add x (terms_value s rows values i ts)) (no_heads i hs e) ∙ laws.zero_add _ (terms_value-value s laws rows values all_values i ts is)

  -- one more head
  pub heads_more : (hs new : List Head) (ts : List Term) (n : ℕ) (d : Term) (h : Head) → n < length ts → All (IsTerm s rows) ts → All (IsHead s rows) hs → IsHead s rows h → IsPermutation (h ∷ hs) new → ((i : ℕ) → head_value s rows values i h ≡ term_value s rows values i (get_or ts n d))
      → (T : ℕ → ℕ) → ((i : ℕ) → s.add (heads_value s rows values i hs) (terms_value s rows values i (drop n ts)) ≡ T i) → (i : ℕ) → s.add (heads_value s rows values i new) (terms_value s rows values i (drop (n + 1) ts)) ≡ T i
  unfolding total
  heads_more hs new ts n d h l terms heads head moved same T so_far i =
      let hv = value_of i h head.scale in
      let ov = heads_value-value i hs heads in
      let rest = terms_value s rows values i (drop (n + 1) ts) in
      let rv = terms_value-value s laws rows values all_values i (drop (n + 1) ts) (All-drop (IsTerm s rows) (n + 1) ts terms) in
      ap (λ x. s.add x rest) (sum-permutation s laws (head_value s rows values i) (h ∷ hs) new moved (All-cons (λ g. IsValue s (head_value s rows values i g)) h hs hv (all_scaled i hs heads)))
      ∙ laws.add_assoc (head_value s rows values i h) (heads_value s rows values i hs) rest hv ov rv
      ∙ swap_two s laws (head_value s rows values i h) (heads_value s rows values i hs) rest hv ov rv
      ∙ ap (s.add (heads_value s rows values i hs)) (ap (λ x. s.add x rest) (same i) ∙ sym (terms_value-rest s laws rows values all_values i n ts d l)) ∙ so_far i

  -- with a head for each term
  pub heads_all : (hs : List Head) (ts : List Term) (n : ℕ) → length ts ≤ n → All (IsHead s rows) hs → (T : ℕ → ℕ) → ((i : ℕ) → s.add (heads_value s rows values i hs) (terms_value s rows values i (drop n ts)) ≡ T i) → (i : ℕ) → heads_value s rows values i hs ≡ T i
  heads_all hs ts n l heads T so_far i = sym (add_zero s laws _ (heads_value-value i hs heads)) ∙ ap (s.add (heads_value s rows values i hs)) (sym (terms_value-end s laws rows values all_values i n ts l)) ∙ so_far i

  -- a head without its entry
  module _ (h : Head) (is : IsHead s rows h) (v : ℕ) (read : v ≡ get_or values h.at 0) where
    abbrev product : ℕ
    product = s.mul v h.scale

    abbrev left : ℕ → ℕ
    left i = s.mul (row_value s.zero (slice_range rows (h.at + 1) h.end) (slice_range values (h.at + 1) h.end) i) h.scale

    rows_split : slice_range rows h.at h.end ≡ h.row ∷ slice_range rows (h.at + 1) h.end
    rows_split = let a = is.some in let b = is.within in range_first rows h.at h.end 0 a b ∙ ap (λ r. r ∷ slice_range rows (h.at + 1) h.end) (sym is.row)

    values_split : slice_range values h.at h.end ≡ v ∷ slice_range values (h.at + 1) h.end
    values_split = let a = is.some in let b = is.within in range_first values h.at h.end 0 a (omega arith) ∙ ap (λ r. r ∷ slice_range values (h.at + 1) h.end) (sym read)

    pub v_value : IsValue s v
    v_value = let a = is.some in let b = is.within in subst (IsValue s) (sym read) (All-get_or (IsValue s) values h.at 0 (omega arith) all_values)

    pub product_value : IsValue s product
    product_value = laws.mul_value v h.scale v_value is.scale

    order : AllPairs (λ i j. i < j) (h.row ∷ slice_range rows (h.at + 1) h.end)
    order = subst (λ xs. AllPairs (λ i j. i < j) xs) rows_split is.ascending

    pub above : All (λ r. h.row < r) (slice_range rows (h.at + 1) h.end)
    above = AllPairs-head (λ i j. i < j) h.row (slice_range rows (h.at + 1) h.end) order

    pub still_ascending : AllPairs (λ i j. i < j) (slice_range rows (h.at + 1) h.end)
    still_ascending = AllPairs-tail (λ i j. i < j) h.row (slice_range rows (h.at + 1) h.end) order

    left_value : (i : ℕ) → IsValue s (left i)
    left_value i = laws.mul_value _ _ (row_value-value s laws (slice_range rows (h.at + 1) h.end) (slice_range values (h.at + 1) h.end) i (All-take (IsValue s) (h.end - (h.at + 1)) (drop (h.at + 1) values) (All-drop (IsValue s) (h.at + 1) values all_values))) is.scale

    pub head_split : (i : ℕ) → head_value s rows values i h ≡ s.add (one_value s.zero (h.row, product) i) (left i)
    unfolding row_value
    head_split i =
        ap (λ rs. s.mul (row_value s.zero rs (slice_range values h.at h.end) i) h.scale) rows_split
        ∙ ap (λ vs. s.mul (row_value s.zero (h.row ∷ slice_range rows (h.at + 1) h.end) vs i) h.scale) values_split
        ∙ ⊎_elim
        (λ (e : h.row ≡ i).
        let t = eq-eqb h.row i e in
        let none : left i ≡ s.zero = ap (λ n. s.mul n h.scale) (row_value-above s.zero (slice_range rows (h.at + 1) h.end) (slice_range values (h.at + 1) h.end) i (rw (← e) above)) ∙ laws.zero_mul h.scale is.scale in
        rw (t, none) (sym (add_zero s laws product product_value)))
        (λ (n : h.row ≡ i → ⊥).
        let t = ne_eqb h.row i n in
        rw t (sym (laws.zero_add (left i) (left_value i))))
        (cases_eq h.row i)

    pub left_none : h.end ≤ h.at + 1 → (i : ℕ) → left i ≡ s.zero
    unfolding row_value
    left_none l i = ap (λ rs. s.mul (row_value s.zero rs (slice_range values (h.at + 1) h.end) i) h.scale) (range_none rows (h.at + 1) h.end l) ∙ laws.zero_mul h.scale is.scale

  -- the least head's entry is taken; the heads that are left are `new`
  module _ (old rest new : List Head) (h : Head) (v : ℕ) (read : v ≡ get_or values h.at 0) (heads : All (IsHead s rows) old) (taken : IsPermutation old (h ∷ rest)) where
    all_taken : All (IsHead s rows) (h ∷ rest)
    all_taken = All-permutation (IsHead s rows) old (h ∷ rest) taken heads

    here : IsHead s rows h
    here = All-head (IsHead s rows) h rest all_taken

    others : All (IsHead s rows) rest
    others = All-tail (IsHead s rows) h rest all_taken

    pub old_value : (i : ℕ) → heads_value s rows values i old ≡ s.add (head_value s rows values i h) (heads_value s rows values i rest)
    unfolding total
    old_value i = sym (sum-permutation s laws (head_value s rows values i) old (h ∷ rest) taken (all_scaled i old heads))

    rest_value : (i : ℕ) → IsValue s (heads_value s rows values i rest)
    rest_value i = sum_value s laws (head_value s rows values i) rest (all_scaled i rest others)

    one_is : (i : ℕ) → IsValue s (one_value s.zero (h.row, s.mul v h.scale) i)
    one_is i = elim (h.row == i) as (λ b. IsValue s (cond b (s.mul v h.scale) s.zero)) [ true ↦ product_value h here v read | false ↦ laws.zero_value ]

    at_least : (bound : ℕ) → All (λ k. bound ≤ k.row) old → bound ≤ h.row
    at_least bound all = All-head (λ k. bound ≤ k.row) h rest (All-permutation (λ k. bound ≤ k.row) old (h ∷ rest) taken all)

    counted : entries_left old ≡ (h.end - h.at) + entries_left rest
    counted = left_same old (h ∷ rest) taken ∙ sum_by-cons (λ (h : Head). h.end - h.at) h rest

    -- ---- the head has another entry
    module _ (more : h.at + 1 < h.end) (row : ℕ) (next_row : row ≡ get_or rows (h.at + 1) 0) where
      abbrev on : Head
      on = record { row = row; at = h.at + 1; end = h.end; scale = h.scale }

      module _ (put : IsPermutation (on ∷ rest) new) where
        on_head : IsHead s rows on
        on_head = record {
          some = more;
          within = here.within;
          row = next_row;
          ascending = still_ascending h here v read;
          scale = here.scale;
        }

        new_heads : All (IsHead s rows) new
        new_heads = All-permutation (IsHead s rows) (on ∷ rest) new put (All-cons (IsHead s rows) on rest on_head others)

        -- where the head goes on to its next entry, its product came out of the heads, and the new ones are left
        pub gives_on : Gives s rows values old (h.row, s.mul v h.scale) new
        unfolding total
        gives_on = record {
          heads = new_heads;
          value = product_value h here v read;
          least = at_least;
          sums = λ i.
              old_value i ∙ ap (λ x. s.add x (heads_value s rows values i rest)) (head_split h here v read i)
              ∙ laws.add_assoc (one_value s.zero (h.row, s.mul v h.scale) i) (head_value s rows values i on) (heads_value s rows values i rest) (one_is i) (value_of i on here.scale) (rest_value i)
              ∙ ap (s.add (one_value s.zero (h.row, s.mul v h.scale) i)) (sym (sum-permutation s laws (head_value s rows values i) (on ∷ rest) new put (All-cons (λ k. IsValue s (head_value s rows values i k)) on rest (value_of i on here.scale) (all_scaled i rest others))));
          fewer = let a = counted in let b = left_same (on ∷ rest) new put in let d = sum_by-cons (λ (h : Head). h.end - h.at) on rest in omega arith;
        }

        -- where its row was the least of all heads, no head has a lesser one after it went on
        pub least_on : All (λ k. h.row ≤ k.row) old → All (λ k. h.row ≤ k.row) new
        least_on least =
            let t = All-permutation (λ k. h.row ≤ k.row) old (h ∷ rest) taken least in
            let w = here.within in
            let a = above h here v read in
            let l = range_first rows (h.at + 1) h.end 0 more w in
            let first : h.row < row = subst (λ x. h.row < x) (sym next_row) (All-head (λ r. h.row < r) (get_or rows (h.at + 1) 0) (slice_range rows (h.at + 1 + 1) h.end) (subst (All (λ r. h.row < r)) l a)) in
            All-permutation (λ k. h.row ≤ k.row) (on ∷ rest) new put (All-cons (λ k. h.row ≤ k.row) on rest (omega arith) (All-tail (λ k. h.row ≤ k.row) h rest t))

    -- ---- the head has no other entry
    module _ (done : h.end ≤ h.at + 1) (put : IsPermutation rest new) where
      -- where the head is at its end, its product came out of the heads, and the others are left
      pub gives_last : Gives s rows values old (h.row, s.mul v h.scale) new
      unfolding total
      gives_last = record {
        heads = All-permutation (IsHead s rows) rest new put others;
        value = product_value h here v read;
        least = at_least;
        sums = λ i.
            old_value i
            ∙ ap (λ x. s.add x (heads_value s rows values i rest)) (head_split h here v read i ∙ ap (s.add (one_value s.zero (h.row, s.mul v h.scale) i)) (left_none h here v read done i) ∙ add_zero s laws (one_value s.zero (h.row, s.mul v h.scale) i) (one_is i))
            ∙ ap (s.add (one_value s.zero (h.row, s.mul v h.scale) i)) (sym (sum-permutation s laws (head_value s rows values i) rest new put (all_scaled i rest others)));
        fewer = let a = counted in let b = left_same rest new put in let c = here.some in omega arith;
      }

      -- where its row was the least of all heads, none of the others has a lesser one
      pub least_last : All (λ k. h.row ≤ k.row) old → All (λ k. h.row ≤ k.row) new
      least_last least = All-permutation (λ k. h.row ≤ k.row) rest new put (All-tail (λ k. h.row ≤ k.row) h rest (All-permutation (λ k. h.row ≤ k.row) old (h ∷ rest) taken least))

-- the head that is taken is at an entry too
pub head_taken : (s : Arithmetic) (rows : List ℕ) (old rest : List Head) (h : Head) → All (IsHead s rows) old → IsPermutation old (h ∷ rest) → IsHead s rows h
head_taken s rows old rest h heads taken = All-head (IsHead s rows) h rest (All-permutation (IsHead s rows) old (h ∷ rest) taken heads)

-- the greatest head has the least row
not_later : (a b : ℕ) → is_lt (nat_cmp b a) ≡ false → a ≤ b
not_later a b h = grind (arith, nat_tests)

-- no head has a row below that of the greatest head
pub least_row : (h : Head) (hs : List Head) → IsUpperBound by_row h hs → All (λ k. h.row ≤ k.row) hs
least_row h hs b = All-weaker (λ k. is_lt (by_row h k) ≡ false) (λ k. h.row ≤ k.row) (λ k t. not_later h.row k.row t) hs (All-from_recursion (λ k. is_lt (by_row h k) ≡ false) hs b)
