-- Two columns joined, entry by entry.
use Rattle.std.proofs.Common.{◌≡◌, ◌≢◌, ℕ, zero, suc, ◌+◌, ◌-◌, ◌<◌, ◌≤◌, true, false, cond, Bool, List, [], ◌∷◌, ◌++◌, length, take, drop, get_or, sym, refl, ap, ◌∙◌, ⊎_elim, arith, subst, length-take}
use Rattle.std.specs.Prelude.{All, AllPairs, not, ◌==◌, nat_lt}
use Rattle.std.specs.Int.{from_bool}
use Rattle.std.proofs.lemmas.Bool.Decides.{nat_tests}
use Rattle.std.proofs.lemmas.Bool.{cases_Bool, cases_eq, cases_lt, cond-true, cond-false, eq-eqb, ne_eqb, eqb-true, false≢true}
use Rattle.std.proofs.lemmas.List.{take_more, take_all, drop_more, drop_all, append-nil, append_assoc, get_or-take, length-take-le}
use Rattle.std.proofs.lemmas.List.Elements.{All-nil, All-push, All-weaker, All-get_or, All-from_get_or}
use Rattle.cb_semirings.specs.Arithmetic.{Arithmetic, IsValue, IsSemiring}
use Rattle.cb_matrix.proofs.Pairs.{AllPairs-nil}
use Rattle.cb_dcsc.specs.Columns.{row_value}
use Rattle.cb_product.specs.SparseColumn.{IsSparseColumn}
use Rattle.cb_product.proofs.ColumnSoFar.{kept_column}
use Rattle.cb_product.proofs.RowValues.{absent_above, row_value-push, row_value-none}
use Rattle.cb_elementwise.specs.JoinedColumns.{IsJoined, IsJoinedTo, where_kept}

-- ---- one more entry, if it is kept
module _ (s : Arithmetic) (laws : IsSemiring s) (rs vs : List ℕ) (is : IsSparseColumn s rs vs) (r v : ℕ) (before : All (λ i. i < r) rs) where
  more_column : (k : Bool) → (k ≡ true → IsValue s v) → (k ≡ true → v ≢ s.zero) → IsSparseColumn s (rs ++ where_kept k (r ∷ [])) (vs ++ where_kept k (v ∷ []))
  more_column true value some = kept_column s laws rs vs is r v (value refl) before (some refl)
  more_column false value some = rw (append-nil rs, append-nil vs) is

  more_value : (k : Bool) (i : ℕ) → row_value s.zero (rs ++ where_kept k (r ∷ [])) (vs ++ where_kept k (v ∷ [])) i ≡ cond (r == i) (cond k v s.zero) (row_value s.zero rs vs i)
  more_value true i = row_value-push s.zero rs vs r v i is.same_length before
  more_value false i = rw (append-nil rs, append-nil vs) (⊎_elim
      (λ (e : r ≡ i). absent_above s.zero r rs vs i before (omega arith) ∙ sym (cond-true _ _ _ (eq-eqb r i e)))
      (λ (n : r ≡ i → ⊥). sym (cond-false _ _ _ (ne_eqb r i n)))
      (cases_eq r i))

  more_below : (k : Bool) (bound : ℕ) → r < bound → All (λ i. i < bound) (rs ++ where_kept k (r ∷ []))
  more_below true bound l = All-push (λ i. i < bound) rs r (All-weaker (λ i. i < r) (λ i. i < bound) (λ i m. omega arith) rs before) l
  more_below false bound l = rw (append-nil rs) (All-weaker (λ i. i < r) (λ i. i < bound) (λ i m. omega arith) rs before)

-- ---- the first entries of a column
module _ (s : Arithmetic) (rows values : List ℕ) (is : IsSparseColumn s rows values) (k : ℕ) (l : k < length rows) where
  -- the first ones are before the next one
  pub front_below : All (λ x. x < get_or rows k 0) (take k rows)
  front_below = All-from_get_or (λ x. x < get_or rows k 0) (take k rows) 0 (λ j m.
      let count = length-take-le k rows (omega arith) in
      let b : j < k = omega arith in
      subst (λ x. x < get_or rows k 0) (sym (get_or-take k rows j 0 b)) (is.ascending j k 0 b l))

  -- the value at a row with one more entry
  pub front : (i : ℕ) → row_value s.zero (take (k + 1) rows) (take (k + 1) values) i ≡ cond (get_or rows k 0 == i) (get_or values k 0) (row_value s.zero (take k rows) (take k values) i)
  front i =
      let e = is.same_length in
      let l' : k < length values = omega arith in
      let same : length (take k values) ≡ length (take k rows) = simp length-take (omega arith) in
      (λ t. row_value s.zero (take_more rows k 0 l t) (take_more values k 0 l' t) i) ∙ row_value-push s.zero (take k rows) (take k values) (get_or rows k 0) (get_or values k 0) i same front_below

  -- the next row is before the one after it
  pub next_up : k + 1 < length rows → get_or rows k 0 < get_or rows (k + 1) 0
  next_up m = is.ascending k (k + 1) 0 (omega arith) m

  pub more_front : (bound : ℕ) → get_or rows k 0 < bound → All (λ x. x < bound) (take (k + 1) rows)
  more_front bound b = subst (All (λ x. x < bound)) (sym (take_more rows k 0 l)) (All-push (λ x. x < bound) (take k rows) (get_or rows k 0) (All-weaker (λ x. x < get_or rows k 0) (λ x. x < bound) (λ x m. omega arith) (take k rows) front_below) b)

  pub value_here : IsValue s (get_or values k 0)
  value_here = let e = is.same_length in All-get_or (IsValue s) values k 0 (omega arith) is.are_values

  pub some_here : get_or values k 0 ≢ s.zero
  some_here = let e = is.same_length in All-get_or (λ v. v ≢ s.zero) values k 0 (omega arith) is.not_zero

-- the value of the other column, which has no entry at a row that is past its entries so far
passed_value : (z : ℕ) (rs vs : List ℕ) (r i : ℕ) → All (λ x. x < r) rs → row_value z rs vs i ≡ cond (r == i) z (row_value z rs vs i)
passed_value z rs vs r i before = ⊎_elim
    (λ (e : r ≡ i). absent_above z r rs vs i before (omega arith) ∙ sym (cond-true _ _ _ (eq-eqb r i e)))
    (λ (n : r ≡ i → ⊥). sym (cond-false _ _ _ (ne_eqb r i n)))
    (cases_eq r i)

-- two values, each changed at one row
both_changed : (f : ℕ → ℕ → ℕ) (b : Bool) (p q u v : ℕ) → f (cond b p u) (cond b q v) ≡ cond b (f p q) (f u v)
both_changed f true p q u v = refl
both_changed f false p q u v = refl

-- the columns the other way round
pub turned : (s : Arithmetic) (f : ℕ → ℕ → ℕ) (ls lvs rs rvs : List ℕ) (x y : ℕ) (ks ws : List ℕ) → IsJoinedTo s f ls lvs rs rvs x y ks ws → IsJoinedTo s (λ p q. f q p) rs rvs ls lvs y x ks ws
turned s f ls lvs rs rvs x y ks ws h = record {
  left_within = h.right_within;
  right_within = h.left_within;
  column = h.column;
  before_left = h.before_right;
  before_right = h.before_left;
  left_passed = h.right_passed;
  right_passed = h.left_passed;
  joined = h.joined;
}

module _ (s : Arithmetic) (laws : IsSemiring s) (f : ℕ → ℕ → ℕ) (ls lvs rs rvs : List ℕ) (left : IsSparseColumn s ls lvs) (right : IsSparseColumn s rs rvs) where
  -- none yet
  pub joined_none : f s.zero s.zero ≡ s.zero → (ks ws : List ℕ) → ks ≡ [] → ws ≡ [] → IsJoinedTo s f ls lvs rs rvs 0 0 ks ws
  joined_none zeros ks ws p q = rw (p, q) (record {
    left_within = omega arith;
    right_within = omega arith;
    column = record { same_length = refl; ascending = AllPairs-nil (λ i j. i < j); are_values = All-nil (IsValue s); not_zero = All-nil (λ v. v ≢ s.zero) };
    before_left = λ l. All-nil (λ i. i < get_or ls 0 0);
    before_right = λ l. All-nil (λ i. i < get_or rs 0 0);
    left_passed = λ l. All-nil (λ i. i < get_or rs 0 0);
    right_passed = λ l. All-nil (λ i. i < get_or ls 0 0);
    joined = λ i.
        row_value-none s.zero [] [] i refl ∙ sym zeros ∙ sym (λ t. f (row_value-none s.zero [] (take 0 lvs) i refl t) (row_value-none s.zero [] (take 0 rvs) i refl t));
  })

  -- one more entry of the left column, whose row the right one doesn't have
  pub left_more : (x y : ℕ) (ks ws : List ℕ) (k : Bool) → x < length ls → (y < length rs → get_or ls x 0 < get_or rs y 0) → f (get_or lvs x 0) s.zero ≡ cond k (get_or lvs x 0) s.zero
      → IsJoinedTo s f ls lvs rs rvs x y ks ws → IsJoinedTo s f ls lvs rs rvs (x + 1) y (ks ++ where_kept k (get_or ls x 0 ∷ [])) (ws ++ where_kept k (get_or lvs x 0 ∷ []))
  left_more x y ks ws k l alone made h =
      let r = get_or ls x 0 in
      let v = get_or lvs x 0 in
      let before = h.before_left l in
      record {
        left_within = omega arith;
        right_within = h.right_within;
        column = more_column s laws ks ws h.column r v before k (λ _. value_here s ls lvs left x l) (λ _. some_here s ls lvs left x l);
        before_left = λ m. more_below s laws ks ws h.column r v before k (get_or ls (x + 1) 0) (next_up s ls lvs left x l m);
        before_right = λ m. more_below s laws ks ws h.column r v before k (get_or rs y 0) (alone m);
        left_passed = λ m. more_front s ls lvs left x l (get_or rs y 0) (alone m);
        right_passed = λ m. let up = next_up s ls lvs left x l m in All-weaker (λ i. i < r) (λ i. i < get_or ls (x + 1) 0) (λ i b. omega arith) (take y rs) (h.right_passed l);
        joined = λ i.
            more_value s laws ks ws h.column r v before k i ∙ (λ t. cond (r == i) (sym made t) (h.joined i t)) ∙ sym (both_changed f (r == i) v s.zero (row_value s.zero (take x ls) (take x lvs) i) (row_value s.zero (take y rs) (take y rvs) i))
            ∙ sym (λ t. f (front s ls lvs left x l i t) (passed_value s.zero (take y rs) (take y rvs) r i (h.right_passed l) t));
      }

  -- one more entry of each, at the same row
  pub both_more : (x y : ℕ) (ks ws : List ℕ) (v : ℕ) (k : Bool) → x < length ls → y < length rs → get_or ls x 0 ≡ get_or rs y 0 → v ≡ f (get_or lvs x 0) (get_or rvs y 0) → IsValue s v → (k ≡ true → v ≢ s.zero) → (k ≡ false → v ≡ s.zero)
      → IsJoinedTo s f ls lvs rs rvs x y ks ws → IsJoinedTo s f ls lvs rs rvs (x + 1) (y + 1) (ks ++ where_kept k (get_or ls x 0 ∷ [])) (ws ++ where_kept k (v ∷ []))
  both_more x y ks ws v k l m same made value some none h =
      let r = get_or ls x 0 in
      let before = h.before_left l in
      let is_made : cond k v s.zero ≡ f (get_or lvs x 0) (get_or rvs y 0) = elim k as (λ b. (b ≡ false → v ≡ s.zero) → cond b v s.zero ≡ f (get_or lvs x 0) (get_or rvs y 0)) [ true ↦ λ _. made | false ↦ λ n. sym (n refl) ∙ made ] none in
      record {
        left_within = omega arith;
        right_within = omega arith;
        column = more_column s laws ks ws h.column r v before k (λ _. value) some;
        before_left = λ b. more_below s laws ks ws h.column r v before k (get_or ls (x + 1) 0) (next_up s ls lvs left x l b);
        before_right = λ b. more_below s laws ks ws h.column r v before k (get_or rs (y + 1) 0) (let up = next_up s rs rvs right y m b in omega arith);
        left_passed = λ b. more_front s ls lvs left x l (get_or rs (y + 1) 0) (let up = next_up s rs rvs right y m b in omega arith);
        right_passed = λ b. more_front s rs rvs right y m (get_or ls (x + 1) 0) (let up = next_up s ls lvs left x l b in omega arith);
        joined = λ i.
            more_value s laws ks ws h.column r v before k i ∙ (λ t. cond (r == i) (is_made t) (h.joined i t)) ∙ sym (both_changed f (r == i) (get_or lvs x 0) (get_or rvs y 0) (row_value s.zero (take x ls) (take x lvs) i) (row_value s.zero (take y rs) (take y rvs) i))
            ∙ sym (λ t. f (front s ls lvs left x l i t) ((front s rs rvs right y m i ∙ ap (λ a. cond (a == i) (get_or rvs y 0) (row_value s.zero (take y rs) (take y rvs) i)) (sym same)) t));
      }

  -- the rest of the left column, which is before the rest of the right one
  pub left_rest : (n x y : ℕ) (ks ws : List ℕ) (k : Bool) → x + n ≡ length ls → ((m : ℕ) → x ≤ m → m < length ls → y < length rs → get_or ls m 0 < get_or rs y 0) → ((v : ℕ) → IsValue s v → f v s.zero ≡ cond k v s.zero)
      → IsJoinedTo s f ls lvs rs rvs x y ks ws → IsJoinedTo s f ls lvs rs rvs (length ls) y (ks ++ where_kept k (drop x ls)) (ws ++ where_kept k (drop x lvs))
  left_rest zero x y ks ws k whole before made h =
      let e = left.same_length in
      let end : x ≡ length ls = omega arith in
      let no_rows : ks ++ where_kept k (drop x ls) ≡ ks = ap (λ xs. ks ++ xs) (ap (where_kept k) (drop_all x ls (omega arith)) ∙ nothing k) ∙ append-nil ks in
      let no_values : ws ++ where_kept k (drop x lvs) ≡ ws = ap (λ xs. ws ++ xs) (ap (where_kept k) (drop_all x lvs (omega arith)) ∙ nothing k) ∙ append-nil ws in
      rw (no_rows, no_values) (subst (λ n. IsJoinedTo s f ls lvs rs rvs n y ks ws) end h)
    where
      nothing : (b : Bool) → where_kept {T = ℕ} b [] ≡ []
      nothing true = refl
      nothing false = refl
  left_rest (suc n) x y ks ws k whole before made h =
      let e = left.same_length in
      let l : x < length ls = omega arith in
      let l' : x < length lvs = omega arith in
      let next = left_more x y ks ws k l (before x (omega arith) l) (made (get_or lvs x 0) (value_here s ls lvs left x l)) h in
      let all = left_rest n (x + 1) y (ks ++ where_kept k (get_or ls x 0 ∷ [])) (ws ++ where_kept k (get_or lvs x 0 ∷ [])) k (omega arith) (λ m a b. before m (omega arith) b) made next in
      let rows : (ks ++ where_kept k (get_or ls x 0 ∷ [])) ++ where_kept k (drop (x + 1) ls) ≡ ks ++ where_kept k (drop x ls) = joined_rest k ks (get_or ls x 0) (drop (x + 1) ls) (drop x ls) (drop_more ls x 0 l) in
      let values : (ws ++ where_kept k (get_or lvs x 0 ∷ [])) ++ where_kept k (drop (x + 1) lvs) ≡ ws ++ where_kept k (drop x lvs) = joined_rest k ws (get_or lvs x 0) (drop (x + 1) lvs) (drop x lvs) (drop_more lvs x 0 l') in
      subst (λ vs. IsJoinedTo s f ls lvs rs rvs (length ls) y (ks ++ where_kept k (drop x ls)) vs) values (subst (λ xs. IsJoinedTo s f ls lvs rs rvs (length ls) y xs ((ws ++ where_kept k (get_or lvs x 0 ∷ [])) ++ where_kept k (drop (x + 1) lvs))) rows all)
    where
      joined_rest : (b : Bool) (xs : List ℕ) (a : ℕ) (more all : List ℕ) → all ≡ a ∷ more → (xs ++ where_kept b (a ∷ [])) ++ where_kept b more ≡ xs ++ where_kept b all
      joined_rest true xs a more all q = append_assoc xs (a ∷ []) more ∙ ap (λ ys. xs ++ ys) (sym q)
      joined_rest false xs a more all q = append-nil (xs ++ [])

  -- all
  pub joined_all : (x y : ℕ) (ks ws : List ℕ) → length ls ≤ x → length rs ≤ y → IsJoinedTo s f ls lvs rs rvs x y ks ws → IsJoined s.zero f ls lvs rs rvs ks ws
  joined_all x y ks ws l m h i =
      let e = left.same_length in
      let e' = right.same_length in
      h.joined i ∙ (λ t. f (row_value s.zero (take_all x ls l t) (take_all x lvs (omega arith) t) i) (row_value s.zero (take_all y rs m t) (take_all y rvs (omega arith) t) i))

module _ (s : Arithmetic) (laws : IsSemiring s) (f : ℕ → ℕ → ℕ) (ls lvs rs rvs : List ℕ) (left : IsSparseColumn s ls lvs) (right : IsSparseColumn s rs rvs) where
  -- one more entry of the right column, whose row the left one doesn't have
  right_more : (x y : ℕ) (ks ws : List ℕ) (k : Bool) → y < length rs → (x < length ls → get_or rs y 0 < get_or ls x 0) → f s.zero (get_or rvs y 0) ≡ cond k (get_or rvs y 0) s.zero
      → IsJoinedTo s f ls lvs rs rvs x y ks ws → IsJoinedTo s f ls lvs rs rvs x (y + 1) (ks ++ where_kept k (get_or rs y 0 ∷ [])) (ws ++ where_kept k (get_or rvs y 0 ∷ []))
  right_more x y ks ws k l alone made h =
      turned s (λ p q. f q p) rs rvs ls lvs (y + 1) x (ks ++ where_kept k (get_or rs y 0 ∷ [])) (ws ++ where_kept k (get_or rvs y 0 ∷ []))
      (left_more s laws (λ p q. f q p) rs rvs ls lvs right left y x ks ws k l alone made (turned s f ls lvs rs rvs x y ks ws h))

  -- the rest of the right column, which is before the rest of the left one
  pub right_rest : (n x y : ℕ) (ks ws : List ℕ) (k : Bool) → y + n ≡ length rs → ((m : ℕ) → y ≤ m → m < length rs → x < length ls → get_or rs m 0 < get_or ls x 0) → ((v : ℕ) → IsValue s v → f s.zero v ≡ cond k v s.zero)
      → IsJoinedTo s f ls lvs rs rvs x y ks ws → IsJoinedTo s f ls lvs rs rvs x (length rs) (ks ++ where_kept k (drop y rs)) (ws ++ where_kept k (drop y rvs))
  right_rest n x y ks ws k whole before made h =
      turned s (λ p q. f q p) rs rvs ls lvs (length rs) x (ks ++ where_kept k (drop y rs)) (ws ++ where_kept k (drop y rvs))
      (left_rest s laws (λ p q. f q p) rs rvs ls lvs right left n y x ks ws k whole before made (turned s f ls lvs rs rvs x y ks ws h))

  module _ (left_made : Bool) (right_made : Bool) (made_left : (v : ℕ) → IsValue s v → f v s.zero ≡ cond left_made v s.zero) (made_right : (v : ℕ) → IsValue s v → f s.zero v ≡ cond right_made v s.zero) (x y : ℕ) (ks ws : List ℕ) (l : x < length ls) (m : y < length rs) (h : IsJoinedTo s f ls lvs rs rvs x y ks ws) where
    -- one more entry of the column with the lower row, which b tells
    lower_more : (b : Bool) → (b ≡ true → get_or ls x 0 < get_or rs y 0) → (b ≡ false → get_or rs y 0 < get_or ls x 0)
        → IsJoinedTo s f ls lvs rs rvs (x + from_bool b) (y + from_bool (not b)) (ks ++ where_kept (cond b left_made right_made) (cond b (get_or ls x 0) (get_or rs y 0) ∷ [])) (ws ++ where_kept (cond b left_made right_made) (cond b (get_or lvs x 0) (get_or rvs y 0) ∷ []))
    lower_more true lower higher =
        let same : y + 0 ≡ y = omega arith in
        rw same (left_more s laws f ls lvs rs rvs left right x y ks ws left_made l (λ _. lower refl) (made_left (get_or lvs x 0) (value_here s ls lvs left x l)) h)
    lower_more false lower higher =
        let same : x + 0 ≡ x = omega arith in
        rw same (right_more x y ks ws right_made m (λ _. higher refl) (made_right (get_or rvs y 0) (value_here s rs rvs right y m)) h)

    pub picked_more : (b k : Bool) (r v x' y' : ℕ) (ks' ws' : List ℕ) → (b ≡ true → get_or ls x 0 < get_or rs y 0) → (b ≡ false → get_or rs y 0 < get_or ls x 0)
        → x' ≡ x + from_bool b → y' ≡ y + from_bool (not b) → k ≡ cond b left_made right_made → r ≡ cond b (get_or ls x 0) (get_or rs y 0) → v ≡ cond b (get_or lvs x 0) (get_or rvs y 0)
        → ks' ≡ ks ++ where_kept k (r ∷ []) → ws' ≡ ws ++ where_kept k (v ∷ []) → IsJoinedTo s f ls lvs rs rvs x' y' ks' ws'
    picked_more b k r v x' y' ks' ws' lower higher xe ye ke re ve kse wse = rw (kse, wse, xe, ye, ke, re, ve) (lower_more b lower higher)

  -- the rest of both, of which one has ended
  pub rest_joined : (x y : ℕ) (ks ws ks' ws' : List ℕ) (left_kept right_kept : Bool) → (x < length ls → length rs ≤ y) → ((v : ℕ) → IsValue s v → f v s.zero ≡ cond left_kept v s.zero) → ((v : ℕ) → IsValue s v → f s.zero v ≡ cond right_kept v s.zero)
      → ks' ≡ (ks ++ where_kept left_kept (drop x ls)) ++ where_kept right_kept (drop y rs) → ws' ≡ (ws ++ where_kept left_kept (drop x lvs)) ++ where_kept right_kept (drop y rvs)
      → IsJoinedTo s f ls lvs rs rvs x y ks ws → IsJoinedTo s f ls lvs rs rvs (length ls) (length rs) ks' ws'
  rest_joined x y ks ws ks' ws' left_kept right_kept ended made_left made_right kse wse h =
      let left_in = h.left_within in
      let right_in = h.right_within in
      let first = left_rest s laws f ls lvs rs rvs left right (length ls - x) x y ks ws left_kept (omega arith) (λ m a b c. let e = ended (omega arith) in absurd (omega arith)) made_left h in
      rw (kse, wse) (right_rest (length rs - y) (length ls) y (ks ++ where_kept left_kept (drop x ls)) (ws ++ where_kept left_kept (drop x lvs)) right_kept (omega arith) (λ m a b c. absurd (omega arith)) made_right first)

-- a value that is kept unless it is zero
pub kept_some : (v z z' : ℕ) → z' ≡ z → not (v == z') ≡ true → v ≢ z
kept_some v z z' same kept e = false≢true (sym (ap not (eq-eqb v z' (e ∙ sym same))) ∙ kept)

pub kept_none : (v z z' : ℕ) → z' ≡ z → not (v == z') ≡ false → v ≡ z
kept_none v z z' same dropped = ⊎_elim
    (λ (t : (v == z') ≡ true). eqb-true v z' t ∙ same)
    (λ (f : (v == z') ≡ false). absurd (false≢true (sym dropped ∙ ap not f)))
    (cases_Bool (v == z'))

-- which of two rows that differ is the lower one
lower_true : (l r : ℕ) → nat_lt l r ≡ true → l < r
lower_true l r h = grind (arith, nat_tests)

lower_false : (l r : ℕ) → l ≢ r → nat_lt l r ≡ false → r < l
lower_false l r n h = grind (arith, nat_tests)

module _ (s : Arithmetic) (laws : IsSemiring s) (f : ℕ → ℕ → ℕ) (ls lvs rs rvs : List ℕ) (left : IsSparseColumn s ls lvs) (right : IsSparseColumn s rs rvs) (x y : ℕ) (ks ws : List ℕ) (l : x < length ls) (m : y < length rs) (h : IsJoinedTo s f ls lvs rs rvs x y ks ws) where
  -- one more entry of each at the same row, unless it is zero
  pub same_next : (v z : ℕ) (ks' ws' : List ℕ) → get_or ls x 0 ≡ get_or rs y 0 → v ≡ f (get_or lvs x 0) (get_or rvs y 0) → IsValue s v → z ≡ s.zero
      → ks' ≡ ks ++ where_kept (not (v == z)) (get_or ls x 0 ∷ []) → ws' ≡ ws ++ where_kept (not (v == z)) (v ∷ []) → IsJoinedTo s f ls lvs rs rvs (x + 1) (y + 1) ks' ws'
  same_next v z ks' ws' same made value none kse wse =
      rw (kse, wse) (both_more s laws f ls lvs rs rvs left right x y ks ws v (not (v == z)) l m same made value (kept_some v s.zero z none) (kept_none v s.zero z none) h)

  -- one more entry of the column with the lower row, which b tells
  pub lower_next : (left_kept right_kept : Bool) → ((v : ℕ) → IsValue s v → f v s.zero ≡ cond left_kept v s.zero) → ((v : ℕ) → IsValue s v → f s.zero v ≡ cond right_kept v s.zero)
      → (k : Bool) (r v x' y' : ℕ) (ks' ws' : List ℕ) → get_or ls x 0 ≢ get_or rs y 0
      → x' ≡ x + from_bool (nat_lt (get_or ls x 0) (get_or rs y 0)) → y' ≡ y + from_bool (not (nat_lt (get_or ls x 0) (get_or rs y 0)))
      → k ≡ cond (nat_lt (get_or ls x 0) (get_or rs y 0)) left_kept right_kept → r ≡ cond (nat_lt (get_or ls x 0) (get_or rs y 0)) (get_or ls x 0) (get_or rs y 0) → v ≡ cond (nat_lt (get_or ls x 0) (get_or rs y 0)) (get_or lvs x 0) (get_or rvs y 0)
      → ks' ≡ ks ++ where_kept k (r ∷ []) → ws' ≡ ws ++ where_kept k (v ∷ []) → IsJoinedTo s f ls lvs rs rvs x' y' ks' ws'
  lower_next left_kept right_kept made_left made_right k r v x' y' ks' ws' differ =
      picked_more s laws f ls lvs rs rvs left right left_kept right_kept made_left made_right x y ks ws l m h (nat_lt (get_or ls x 0) (get_or rs y 0)) k r v x' y' ks' ws' (lower_true (get_or ls x 0) (get_or rs y 0)) (lower_false (get_or ls x 0) (get_or rs y 0) differ)

-- room for the entries to come, after one more of either column
pub lower_room : (b : Bool) (lx ly x y dx dy old new : ℕ) (capacity capacity' : ℕ) → x < lx → y < ly → dx ≡ from_bool b → dy ≡ from_bool (not b) → old + ((lx - x) + (ly - y)) ≤ capacity → new ≤ old + 1 → capacity' ≡ capacity
    → new + ((lx - (x + dx)) + (ly - (y + dy))) ≤ capacity'
lower_room true lx ly x y dx dy old new capacity capacity' l m xe ye room len same = omega arith
lower_room false lx ly x y dx dy old new capacity capacity' l m xe ye room len same = omega arith

-- ---- entries of one column alone that are dropped
module _ (s : Arithmetic) (laws : IsSemiring s) (f : ℕ → ℕ → ℕ) (ls lvs rs rvs : List ℕ) (left : IsSparseColumn s ls lvs) (right : IsSparseColumn s rs rvs) where
  -- several of the left column, all before the next of the right one
  left_skipped : ((v : ℕ) → IsValue s v → f v s.zero ≡ s.zero) → (n x y : ℕ) (ks ws : List ℕ) → x + n ≤ length ls → (y < length rs → (k : ℕ) → x ≤ k → k < x + n → get_or ls k 0 < get_or rs y 0)
      → IsJoinedTo s f ls lvs rs rvs x y ks ws → IsJoinedTo s f ls lvs rs rvs (x + n) y ks ws
  left_skipped dropped zero x y ks ws within before h = let e : x + 0 ≡ x = omega arith in rw e h
  left_skipped dropped (suc n) x y ks ws within before h =
      let l : x < length ls = omega arith in
      let next = left_more s laws f ls lvs rs rvs left right x y ks ws false l (λ m. before m x (omega arith) (omega arith)) (dropped (get_or lvs x 0) (value_here s ls lvs left x l)) h in
      let same : IsJoinedTo s f ls lvs rs rvs (x + 1) y ks ws = subst (λ vs. IsJoinedTo s f ls lvs rs rvs (x + 1) y ks vs) (append-nil ws) (subst (λ xs. IsJoinedTo s f ls lvs rs rvs (x + 1) y xs (ws ++ [])) (append-nil ks) next) in
      let e : (x + 1) + n ≡ x + suc n = omega arith in
      subst (λ k. IsJoinedTo s f ls lvs rs rvs k y ks ws) e (left_skipped dropped n (x + 1) y ks ws (omega arith) (λ m k a b. before m k (omega arith) (omega arith)) same)

  pub left_passed_over : ((v : ℕ) → IsValue s v → f v s.zero ≡ s.zero) → (x y x' : ℕ) (ks ws : List ℕ) → x < x' → x' ≤ length ls → get_or ls (x' - 1) 0 < get_or rs y 0
      → IsJoinedTo s f ls lvs rs rvs x y ks ws → IsJoinedTo s f ls lvs rs rvs x' y ks ws
  left_passed_over dropped x y x' ks ws more within below h =
      let e : x + (x' - x) ≡ x' = omega arith in
      subst (λ k. IsJoinedTo s f ls lvs rs rvs k y ks ws) e (left_skipped dropped (x' - x) x y ks ws (omega arith) (λ m k a b. ⊎_elim
      (λ (c : k < x' - 1). let up : get_or ls k 0 < get_or ls (x' - 1) 0 = left.ascending k (x' - 1) 0 c (omega arith) in omega arith)
      (λ (c : x' - 1 ≤ k). let same : k ≡ x' - 1 = omega arith in let w = ap (λ i. get_or ls i 0) same in omega arith)
      (cases_lt k (x' - 1))) h)

module _ (s : Arithmetic) (laws : IsSemiring s) (f : ℕ → ℕ → ℕ) (ls lvs rs rvs : List ℕ) (left : IsSparseColumn s ls lvs) (right : IsSparseColumn s rs rvs) where
  -- several of the right column
  pub right_passed_over : ((v : ℕ) → IsValue s v → f s.zero v ≡ s.zero) → (x y y' : ℕ) (ks ws : List ℕ) → y < y' → y' ≤ length rs → get_or rs (y' - 1) 0 < get_or ls x 0
      → IsJoinedTo s f ls lvs rs rvs x y ks ws → IsJoinedTo s f ls lvs rs rvs x y' ks ws
  right_passed_over dropped x y y' ks ws more within below h =
      turned s (λ p q. f q p) rs rvs ls lvs y' x ks ws (left_passed_over s laws (λ p q. f q p) rs rvs ls lvs right left dropped y x y' ks ws more within below (turned s f ls lvs rs rvs x y ks ws h))

-- ---- two columns of which one is wholly in front of the other
-- each row is before a bound that the last one is before
all_before : (ls : List ℕ) (bound : ℕ) → AllPairs (λ i j. i < j) ls → get_or ls (length ls - 1) 0 < bound → (m : ℕ) → m < length ls → get_or ls m 0 < bound
all_before ls bound up last m l = ⊎_elim
    (λ (b : m < length ls - 1). let less : get_or ls m 0 < get_or ls (length ls - 1) 0 = up m (length ls - 1) 0 b (omega arith) in omega arith)
    (λ (b : length ls - 1 ≤ m). let e : length ls - 1 ≡ m = omega arith in subst (λ k. get_or ls k 0 < bound) e last)
    (cases_lt m (length ls - 1))

module _ (s : Arithmetic) (laws : IsSemiring s) (f : ℕ → ℕ → ℕ) (zeros : f s.zero s.zero ≡ s.zero) (ls lvs rs rvs : List ℕ) (left : IsSparseColumn s ls lvs) (right : IsSparseColumn s rs rvs) (k : Bool) (ks ws ks' ws' : List ℕ) (no_rows : ks ≡ []) (no_values : ws ≡ []) where
  -- the left one
  pub left_first : ((v : ℕ) → IsValue s v → f v s.zero ≡ cond k v s.zero) → get_or ls (length ls - 1) 0 < get_or rs 0 0 → ks' ≡ ks ++ where_kept k ls → ws' ≡ ws ++ where_kept k lvs → IsJoinedTo s f ls lvs rs rvs (length ls) 0 ks' ws'
  left_first made below kse wse =
      rw (kse, wse) (left_rest s laws f ls lvs rs rvs left right (length ls) 0 0 ks ws k (omega arith) (λ m a b c. all_before ls (get_or rs 0 0) left.ascending below m b) made (joined_none s laws f ls lvs rs rvs left right zeros ks ws no_rows no_values))

  -- the right one
  pub right_first : ((v : ℕ) → IsValue s v → f s.zero v ≡ cond k v s.zero) → get_or rs (length rs - 1) 0 < get_or ls 0 0 → ks' ≡ ks ++ where_kept k rs → ws' ≡ ws ++ where_kept k rvs → IsJoinedTo s f ls lvs rs rvs 0 (length rs) ks' ws'
  right_first made below kse wse =
      rw (kse, wse) (right_rest s laws f ls lvs rs rvs left right (length rs) 0 0 ks ws k (omega arith) (λ m a b c. all_before rs (get_or ls 0 0) right.ascending below m b) made (joined_none s laws f ls lvs rs rvs left right zeros ks ws no_rows no_values))
