-- The union of two ascending lists of columns, built step by step.
use Rattle.std.proofs.Common.{◌≡◌, ℕ, ◌+◌, ◌-◌, ◌<◌, ◌≤◌, List, [], ◌∷◌, ◌++◌, length, drop, get_or, append-nil, sym, refl, ap, ◌∙◌, ⊎_elim, arith, subst}
use Rattle.std.specs.Prelude.{All, AllPairs, Contains}
use Rattle.std.proofs.lemmas.Bool.{cases_eq, cases_lt}
use Rattle.std.proofs.lemmas.List.{get_or-drop, get_or_default, length-drop, drop_all}
use Rattle.std.proofs.lemmas.List.Elements.{All-nil, All-push, All-weaker, All-get_or, All-append, All-drop, Contains-push, Contains-append_left, Contains-append_right, Contains-get_or}
use Rattle.std.proofs.lemmas.List.Quantifiers.{all_pairs_push}
use Rattle.cb_matrix.proofs.Pairs.{AllPairs-nil, AllPairs-append, AllPairs-drop}

-- `items` is the union of the first x columns of `left` and the first y of `right`, before the next ones
pub record IsUnionSoFar (left right items : List ℕ) (x y : ℕ) : Type 0 where
  pub left_within : x ≤ length left
  pub right_within : y ≤ length right
  pub ascending : AllPairs (λ c d. c < d) items
  pub left_before : x < length left → All (λ c. c < get_or left x 0) items
  pub right_before : y < length right → All (λ c. c < get_or right y 0) items
  pub has_left : (k : ℕ) → k < x → k < length left → Contains items (get_or left k 0)
  pub has_right : (k : ℕ) → k < y → k < length right → Contains items (get_or right k 0)
  pub within : (bound : ℕ) → All (λ c. c < bound) left → All (λ c. c < bound) right → All (λ c. c < bound) items

-- before the first columns
pub union_start : (left right items : List ℕ) → items ≡ [] → IsUnionSoFar left right items 0 0
union_start left right items e = rw e (record {
  left_within = omega arith;
  right_within = omega arith;
  ascending = AllPairs-nil (λ c d. c < d);
  left_before = λ l. All-nil (λ c. c < get_or left 0 0);
  right_before = λ l. All-nil (λ c. c < get_or right 0 0);
  has_left = λ k l m. absurd (omega arith);
  has_right = λ k l m. absurd (omega arith);
  within = λ bound p q. All-nil (λ c. c < bound);
})

-- the lists the other way round
turned : (left right items : List ℕ) (x y : ℕ) → IsUnionSoFar left right items x y → IsUnionSoFar right left items y x
turned left right items x y h = record {
  left_within = h.right_within;
  right_within = h.left_within;
  ascending = h.ascending;
  left_before = h.right_before;
  right_before = h.left_before;
  has_left = h.has_right;
  has_right = h.has_left;
  within = λ bound p q. h.within bound q p;
}

-- one more column at the end
had_more : (xs items : List ℕ) (x c : ℕ) → c ≡ get_or xs x 0 → ((k : ℕ) → k < x → k < length xs → Contains items (get_or xs k 0)) → (k : ℕ) → k < x + 1 → k < length xs → Contains (items ++ c ∷ []) (get_or xs k 0)
had_more xs items x c is had k l m = ⊎_elim
    (λ (b : k < x). Contains-append_left items (c ∷ []) (get_or xs k 0) (had k b m))
    (λ (b : x ≤ k). let same : k ≡ x = omega arith in subst (Contains (items ++ c ∷ [])) (is ∙ ap (λ j. get_or xs j 0) (sym same)) (Contains-push items c))
    (cases_lt k x)

-- the next columns stay past all
next_past : (xs items : List ℕ) (x c : ℕ) → AllPairs (λ a b. a < b) xs → c ≡ get_or xs x 0 → All (λ a. a < c) items → x + 1 < length xs → All (λ a. a < get_or xs (x + 1) 0) (items ++ c ∷ [])
next_past xs items x c up is before l =
    let step : get_or xs x 0 < get_or xs (x + 1) 0 = up x (x + 1) 0 (omega arith) l in
    All-push (λ a. a < get_or xs (x + 1) 0) items c (All-weaker (λ a. a < c) (λ a. a < get_or xs (x + 1) 0) (λ a m. omega arith) items before) (omega arith)

module _ (left right : List ℕ) (up : AllPairs (λ a b. a < b) left) (other_up : AllPairs (λ a b. a < b) right) where
  -- the next column is the first list's
  pub union_left : (items : List ℕ) (x y : ℕ) → IsUnionSoFar left right items x y → x < length left → (y < length right → get_or left x 0 < get_or right y 0) → IsUnionSoFar left right (items ++ get_or left x 0 ∷ []) (x + 1) y
  union_left items x y h l less =
      let c = get_or left x 0 in
      record {
        left_within = omega arith;
        right_within = h.right_within;
        ascending = all_pairs_push (λ a b. a < b) items c h.ascending (h.left_before l);
        left_before = next_past left items x c up refl (h.left_before l);
        right_before = λ m. All-push (λ a. a < get_or right y 0) items c (h.right_before m) (less m);
        has_left = had_more left items x c refl h.has_left;
        has_right = λ k b m. Contains-append_left items (c ∷ []) (get_or right k 0) (h.has_right k b m);
        within = λ bound p q. All-push (λ a. a < bound) items c (h.within bound p q) (All-get_or (λ a. a < bound) left x 0 l p);
      }

  -- the next column is in both
  pub union_both : (items : List ℕ) (x y : ℕ) → IsUnionSoFar left right items x y → x < length left → y < length right → get_or left x 0 ≡ get_or right y 0 → IsUnionSoFar left right (items ++ get_or left x 0 ∷ []) (x + 1) (y + 1)
  union_both items x y h l m same =
      let c = get_or left x 0 in
      record {
        left_within = omega arith;
        right_within = omega arith;
        ascending = all_pairs_push (λ a b. a < b) items c h.ascending (h.left_before l);
        left_before = next_past left items x c up refl (h.left_before l);
        right_before = next_past right items y c other_up same (h.left_before l);
        has_left = had_more left items x c refl h.has_left;
        has_right = had_more right items y c same h.has_right;
        within = λ bound p q. All-push (λ a. a < bound) items c (h.within bound p q) (All-get_or (λ a. a < bound) left x 0 l p);
      }

  -- the rest of the first list, if nothing is left of the second
  pub union_rest : (items : List ℕ) (x y : ℕ) → IsUnionSoFar left right items x y → (x < length left → length right ≤ y) → IsUnionSoFar left right (items ++ drop x left) (length left) y
  union_rest items x y h alone = ⊎_elim
      (λ (l : x < length left).
      let none = alone l in
      let long = length-drop x left in
      record {
        left_within = omega arith;
        right_within = h.right_within;
        ascending = AllPairs-append (λ a b. a < b) items (drop x left) h.ascending (AllPairs-drop (λ a b. a < b) x left up)
            (All-weaker (λ a. a < get_or left x 0) (λ a. All (λ b. a < b) (drop x left)) (λ a m k d b.
            let at : get_or (drop x left) k d ≡ get_or left (x + k) 0 = get_or-drop x left k d ∙ get_or_default left (x + k) d 0 (omega arith) in
            let later : get_or left x 0 ≤ get_or left (x + k) 0 = ⊎_elim (λ (z : k ≡ 0). let e : get_or left (x + k) 0 ≡ get_or left x 0 = ap (λ j. get_or left j 0) (let w : x + k ≡ x = omega arith in w) in omega arith) (λ (z : k ≡ 0 → ⊥). let some : 0 < k = omega arith in let w : get_or left x 0 < get_or left (x + k) 0 = up x (x + k) 0 (omega arith) (omega arith) in omega arith) (cases_eq k 0) in
            omega arith) items (h.left_before l));
        left_before = λ m. absurd (omega arith);
        right_before = λ m. absurd (omega arith);
        has_left = λ k b m. ⊎_elim
            (λ (f : k < x). Contains-append_left items (drop x left) (get_or left k 0) (h.has_left k f m))
            (λ (f : x ≤ k).
            let j : x + (k - x) ≡ k = omega arith in
            let at : get_or (drop x left) (k - x) 0 ≡ get_or left k 0 = get_or-drop x left (k - x) 0 ∙ ap (λ i. get_or left i 0) j in
            Contains-append_right items (drop x left) (get_or left k 0) (subst (Contains (drop x left)) at (Contains-get_or (drop x left) (k - x) 0 (omega arith))))
            (cases_lt k x);
        has_right = λ k b m. Contains-append_left items (drop x left) (get_or right k 0) (h.has_right k b m);
        within = λ bound p q. All-append (λ a. a < bound) items (drop x left) (h.within bound p q) (All-drop (λ a. a < bound) x left p);
      })
      (λ (l : length left ≤ x).
      let same : items ++ drop x left ≡ items = ap (λ r. items ++ r) (drop_all x left l) ∙ append-nil items in
      rw same (record {
        left_within = omega arith;
        right_within = h.right_within;
        ascending = h.ascending;
        left_before = λ m. absurd (omega arith);
        right_before = h.right_before;
        has_left = λ k b m. h.has_left k (omega arith) m;
        has_right = h.has_right;
        within = h.within;
      }))
      (cases_lt x (length left))

-- the next column is the second list's
pub union_right : (left right : List ℕ) → AllPairs (λ a b. a < b) left → AllPairs (λ a b. a < b) right → (items : List ℕ) (x y : ℕ) → IsUnionSoFar left right items x y → y < length right → (x < length left → get_or right y 0 < get_or left x 0) → IsUnionSoFar left right (items ++ get_or right y 0 ∷ []) x (y + 1)
union_right left right up other_up items x y h l less = turned right left _ (y + 1) x (union_left right left other_up up items y x (turned left right items x y h) l less)

-- the rest of the second list
pub union_last : (left right : List ℕ) → AllPairs (λ a b. a < b) left → AllPairs (λ a b. a < b) right → (items : List ℕ) (x y : ℕ) → IsUnionSoFar left right items x y → length left ≤ x → IsUnionSoFar left right (items ++ drop y right) x (length right)
union_last left right up other_up items x y h none = turned right left _ (length right) x (union_rest right left other_up up items y x (turned left right items x y h) (λ l. none))

-- with all columns of the first list, or of the second
pub union_has_left : (left right items : List ℕ) (x y : ℕ) → IsUnionSoFar left right items x y → length left ≤ x → (c : ℕ) → Contains left c → Contains items c
union_has_left left right items x y h all c m =
    let place = m.1 in
    subst (Contains items) (get_or_default left m.0 0 c place ∙ m.2) (h.has_left m.0 (omega arith) place)

-- past the end of the second list its columns are all there
pub union_has_right : (left right items : List ℕ) (x y : ℕ) → IsUnionSoFar left right items x y → length right ≤ y → (c : ℕ) → Contains right c → Contains items c
union_has_right left right items x y h all c m =
    let place = m.1 in
    subst (Contains items) (get_or_default right m.0 0 c place ∙ m.2) (h.has_right m.0 (omega arith) place)
