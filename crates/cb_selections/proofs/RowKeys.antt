-- Keys of a column's entries in listed rows, and what they make of the column.
use Rattle.std.proofs.Common.{◌≡◌, ◌≢◌, ℕ, suc, zero, ◌+◌, ◌*◌, ◌/◌, ◌%◌, ◌<◌, ◌≤◌, cond, List, [], ◌∷◌, ◌++◌, length, take, get_or, set, sym, refl, ap, subst, ◌∙◌, ⊎_elim, arith}
use Rattle.std.specs.Prelude.{All, AllPairs, Contains, IsPermutation, nat_lt}
use Rattle.std.specs.List.Sorted.{IsSorted}
use Rattle.std.specs.Ordering.{nat_cmp}
use Rattle.std.proofs.lemmas.Bool.{cases_lt, cases_eq, cond-true, cond-false, lt-ltb, le-ltb}
use Rattle.std.proofs.lemmas.Bool.Decides.{Decides-eqb, nat_tests}
use Rattle.std.proofs.lemmas.Nat.{div-mul-add, mod-mul-add, div-add-mod'}
use Rattle.std.proofs.lemmas.List.{get_or_default, take-set}
use Rattle.std.proofs.lemmas.Grind.{take-set_at}
use Rattle.std.proofs.lemmas.List.Elements.{All-nil, All-cons, All-push, All-weaker, All-get_or, All-from_get_or, All-contains, Contains-get_or, Contains-push, Contains-append_left}
use Rattle.std.proofs.lemmas.List.Sorted.{All-permutation, Contains-permutation, IsNonDecreasingBy-from_sort}
use Rattle.std.proofs.lemmas.List.Kept.{AllPairs-from_increasing}
use Rattle.std.proofs.lemmas.Map.Made.{IsDistinct-from_AllPairs, AllPairs-from_IsDistinct}
use Rattle.std.proofs.lemmas.Map.Keys.{IsDistinct-IsPermutation, IsStrictlyIncreasing-from_distinct}
use Rattle.cb_matrix.proofs.Pairs.{AllPairs-nil, AllPairs-push}
use Rattle.cb_dcsc.specs.Columns.{row_value}
use Rattle.cb_dcsc.proofs.Lookup.{row_value-found, row_value-absent}
use Rattle.cb_selections.specs.declared.sorted_rows.TheConstants.{ENTRIES}
use Rattle.cb_selections.specs.ListedRows.{ArePlaces, IsListed}
use Rattle.cb_selections.specs.RowKeys.{IsKey, AreKeys}
use Rattle.cb_selections.proofs.ListedRows.{not_listed}

-- ---- numbers that ascend
-- each is no less than its place
pub place_below : (xs : List ℕ) → AllPairs (λ i j. i < j) xs → (k : ℕ) → k < length xs → k ≤ get_or xs k 0
place_below xs up zero l = omega arith
place_below xs up (suc k) l =
    let before = place_below xs up k (omega arith) in
    let less : get_or xs k 0 < get_or xs (suc k) 0 = up k (suc k) 0 (omega arith) l in
    omega arith

-- and has one place
same_index : (xs : List ℕ) → AllPairs (λ i j. i < j) xs → (m n : ℕ) → m < length xs → n < length xs → get_or xs m 0 ≡ get_or xs n 0 → m ≡ n
same_index xs up m n l k e = ⊎_elim
    (λ (b : m < n). let less : get_or xs m 0 < get_or xs n 0 = up m n 0 b k in absurd (omega arith))
    (λ (b : n ≤ m). ⊎_elim
    (λ (same : m ≡ n). same)
    (λ (no : m ≡ n → ⊥). let ne : m ≢ n = no in let less : get_or xs n 0 < get_or xs m 0 = up n m 0 (omega arith) l in absurd (omega arith))
    (cases_eq m n))
    (cases_lt m n)

-- a number is at a place of a list, or at none
by_place : (xs : List ℕ) (x : ℕ) (Q : Type 0) → ((n : ℕ) → n < length xs → get_or xs n 0 ≡ x → Q) → (All (λ y. y ≢ x) xs → Q) → Q
by_place [] x Q found none = none (All-nil (λ y. y ≢ x))
by_place (y ∷ xs) x Q found none = ⊎_elim
    (λ (e : y ≡ x). found 0 (omega arith) e)
    (λ (no : y ≡ x → ⊥). by_place xs x Q (λ n l e. found (suc n) (omega arith) e) (λ h. none (All-cons (λ y. y ≢ x) y xs no h)))
    (cases_eq y x)

-- ---- the keys of a column's entries in listed rows
-- those of the first k entries
pub record AreKeysTo (listed rows : List ℕ) (k : ℕ) (keys : List ℕ) : Type 0 where
  pub few : k ≤ ENTRIES
  pub each : All (IsKey listed rows) keys
  pub before : All (λ x. x % ENTRIES < k) keys
  pub all : (i n : ℕ) → i < length listed → n < k → get_or listed i 0 ≡ get_or rows n 0 → Contains keys (i * ENTRIES + n)
  pub distinct : AllPairs (λ x y. x ≢ y) keys

-- none yet
pub keys_none : (listed rows keys : List ℕ) → keys ≡ [] → AreKeysTo listed rows 0 keys
keys_none listed rows keys e = rw e (record {
  few = omega arith;
  each = All-nil (IsKey listed rows);
  before = All-nil (λ x. x % ENTRIES < 0);
  all = λ i n l m. absurd (omega arith);
  distinct = AllPairs-nil (λ x y. x ≢ y);
})

module _ (listed rows : List ℕ) (k : ℕ) (l : k < length rows) (few : k < ENTRIES) where
  abbrev row : ℕ
  row = get_or rows k 0

  later : (keys : List ℕ) → All (λ x. x % ENTRIES < k) keys → All (λ x. x % ENTRIES < k + 1) keys
  later keys h = All-weaker (λ x. x % ENTRIES < k) (λ x. x % ENTRIES < k + 1) (λ x b. omega arith) keys h

  -- the next one is in a listed row
  keys_kept : (bound place : ℕ) (places keys : List ℕ) → ArePlaces bound listed places → place < length listed → get_or listed place 0 ≡ row
      → AreKeysTo listed rows k keys → AreKeysTo listed rows (k + 1) (keys ++ (place * ENTRIES + k) ∷ [])
  keys_kept bound place places keys are within here h =
      let key = place * ENTRIES + k in
      let whole : key / ENTRIES ≡ place = div-mul-add place ENTRIES k few in
      let rest : key % ENTRIES ≡ k = mod-mul-add place ENTRIES k few in
      record {
        few = omega arith;
        each = All-push (IsKey listed rows) keys key h.each (record {
          place = subst (λ p. p < length listed) (sym whole) within;
          entry = subst (λ n. n < length rows) (sym rest) l;
          row = ap (λ p. get_or listed p 0) whole ∙ here ∙ sym (ap (λ n. get_or rows n 0) rest);
        });
        before = All-push (λ x. x % ENTRIES < k + 1) keys key (later keys h.before) (subst (λ n. n < k + 1) (sym rest) (omega arith));
        all = λ i n b m e. ⊎_elim
            (λ (old : n < k). Contains-append_left keys (key ∷ []) (i * ENTRIES + n) (h.all i n b old e))
            (λ (last : k ≤ n).
            let same : n ≡ k = omega arith in
            let place_is : i ≡ place = sym (are.own i b) ∙ ap (λ r. get_or places r 0) (e ∙ ap (λ x. get_or rows x 0) same ∙ sym here) ∙ are.own place within in
            subst (Contains (keys ++ key ∷ [])) (λ z. sym place_is z * ENTRIES + sym same z) (Contains-push keys key))
            (cases_lt n k);
        distinct = AllPairs-push (λ x y. x ≢ y) keys key h.distinct (All-weaker (λ x. x % ENTRIES < k) (λ x. x ≢ key) (λ x b e. let same : x % ENTRIES ≡ k = ap (λ y. y % ENTRIES) e ∙ rest in absurd (omega arith)) keys h.before);
      }

  -- or is not
  keys_dropped : (keys : List ℕ) → All (λ r. r ≢ row) listed → AreKeysTo listed rows k keys → AreKeysTo listed rows (k + 1) keys
  keys_dropped keys none h = record {
    few = omega arith;
    each = h.each;
    before = later keys h.before;
    all = λ i n b m e. ⊎_elim
        (λ (old : n < k). h.all i n b old e)
        (λ (last : k ≤ n). let same : n ≡ k = omega arith in absurd (All-get_or (λ r. r ≢ row) listed i 0 b none (e ∙ ap (λ x. get_or rows x 0) same)))
        (cases_lt n k);
    distinct = h.distinct;
  }

  keys_same : (xs ys : List ℕ) → xs ≡ ys → AreKeysTo listed rows (k + 1) ys → AreKeysTo listed rows (k + 1) xs
  keys_same xs ys e h = subst (AreKeysTo listed rows (k + 1)) (sym e) h

  -- its key is written behind the others in any case, and stays there if it is in a listed row
  pub keys_written : (xs : List ℕ) (bound count next : ℕ) (places : List ℕ) → ArePlaces bound listed places → row < bound → count < length xs
      → next ≡ count + cond (nat_lt (get_or places row 0) (length listed)) 1 0 → AreKeysTo listed rows k (take count xs)
      → AreKeysTo listed rows (k + 1) (take next (set xs count (get_or places row 0 * ENTRIES + k)))
  keys_written xs bound count next places are low room is_next h =
      let place = get_or places row 0 in
      let key = place * ENTRIES + k in
      ⊎_elim
      (λ (b : place < length listed).
      let more : next ≡ count + 1 = is_next ∙ ap (λ n. count + n) (cond-true _ _ _ (lt-ltb place (length listed) b)) in
      keys_same (take next (set xs count key)) (take count xs ++ key ∷ []) (take-set_at xs count next key more room)
      (keys_kept bound place places (take count xs) are b (are.held row low b) h))
      (λ (b : length listed ≤ place).
      let same : next ≡ count = is_next ∙ ap (λ n. count + n) (cond-false _ _ _ (le-ltb place (length listed) b)) ∙ (omega arith) in
      keys_same (take next (set xs count key)) (take count xs) (ap (λ n. take n (set xs count key)) same ∙ take-set xs count key)
      (keys_dropped (take count xs) (not_listed bound row listed places are b) h))
      (cases_lt place (length listed))

-- all
pub keys_all : (listed rows : List ℕ) (k : ℕ) (keys : List ℕ) → length rows ≡ k → AreKeysTo listed rows k keys → AreKeys listed rows keys
keys_all listed rows k keys e h = record {
  few = omega (arith, h.few);
  each = h.each;
  all = λ i n b l. h.all i n b (omega arith);
  distinct = h.distinct;
}

-- ---- in order
module _ (listed rows old keys : List ℕ) (moved : IsPermutation old keys) (sorted : IsSorted nat_cmp keys) (h : AreKeys listed rows old) where
  -- they are the same keys
  pub keys_moved : AreKeys listed rows keys
  keys_moved = record {
    few = h.few;
    each = All-permutation (IsKey listed rows) old keys moved h.each;
    all = λ i n b l e. Contains-permutation old keys (i * ENTRIES + n) moved (h.all i n b l e);
    distinct = AllPairs-from_IsDistinct Decides-eqb keys (IsDistinct-IsPermutation _ (λ x y. grind (arith, nat_tests)) old keys moved (IsDistinct-from_AllPairs Decides-eqb old h.distinct));
  }

  -- which ascend
  pub keys_ascend : AllPairs (λ x y. x < y) keys
  keys_ascend = AllPairs-from_increasing keys (IsStrictlyIncreasing-from_distinct keys (IsNonDecreasingBy-from_sort (λ x. x) keys sorted) (IsDistinct-from_AllPairs Decides-eqb keys keys_moved.distinct))

-- a key's entry is one of the column
pub entries_within : (listed rows values keys : List ℕ) → length values ≡ length rows → AreKeys listed rows keys → All (λ key. key % ENTRIES < length values) keys
entries_within listed rows values keys long h = All-weaker (IsKey listed rows) (λ key. key % ENTRIES < length values) (λ key is. subst (λ n. key % ENTRIES < n) (sym long) is.entry) keys h.each

module _ (listed rows values keys ks ws : List ℕ) (long : length values ≡ length rows) (up : AllPairs (λ i j. i < j) rows) (are : AreKeys listed rows keys) (ascend : AllPairs (λ x y. x < y) keys)
    (ks_long : length ks ≡ length keys) (ws_long : length ws ≡ length keys)
    (ks_are : (m : ℕ) → m < length keys → get_or ks m 0 ≡ get_or keys m 0 / ENTRIES)
    (ws_are : (m : ℕ) → m < length keys → get_or ws m 0 ≡ get_or values (get_or keys m 0 % ENTRIES) 0) where
  key_at : (m : ℕ) → m < length keys → IsKey listed rows (get_or keys m 0)
  key_at m l = All-get_or (IsKey listed rows) keys m 0 l are.each

  -- of two keys, one after the other, the second has a later row
  rows_up : (i j : ℕ) → i < j → j < length keys → get_or keys i 0 / ENTRIES < get_or keys j 0 / ENTRIES
  rows_up i j b l =
      let x = get_or keys i 0 in
      let y = get_or keys j 0 in
      let less : x < y = ascend i j 0 b l in
      let x_is = key_at i (omega arith) in
      let y_is = key_at j l in
      let other : x / ENTRIES ≢ y / ENTRIES = λ e.
      let same : x % ENTRIES ≡ y % ENTRIES = same_index rows up (x % ENTRIES) (y % ENTRIES) x_is.entry y_is.entry (sym x_is.row ∙ ap (λ p. get_or listed p 0) e ∙ y_is.row) in
      let one : x ≡ y = sym (div-add-mod' x ENTRIES) ∙ (λ z. e z * ENTRIES + same z) ∙ div-add-mod' y ENTRIES in
      absurd (omega arith) in
      omega arith

  ks_up : AllPairs (λ i j. i < j) ks
  ks_up i j d b l =
      let x : get_or ks i d ≡ get_or keys i 0 / ENTRIES = get_or_default ks i d 0 (omega arith) ∙ ks_are i (omega arith) in
      let y : get_or ks j d ≡ get_or keys j 0 / ENTRIES = get_or_default ks j d 0 l ∙ ks_are j (omega arith) in
      let less = rows_up i j b (omega arith) in
      subst (λ n. n < get_or ks j d) (sym x) (subst (λ n. get_or keys i 0 / ENTRIES < n) (sym y) less)

  -- an entry in a listed row has its value
  value_there : (z i n : ℕ) → i < length listed → n < length rows → get_or rows n 0 ≡ get_or listed i 0 → row_value z ks ws i ≡ get_or values n 0
  value_there z i n b l e =
      let few : n < ENTRIES = let m = are.few in omega arith in
      let P : ℕ → Type 0 = λ x. x ≡ i * ENTRIES + n → row_value z ks ws i ≡ get_or values n 0 in
      All-contains P keys (i * ENTRIES + n) (All-from_get_or P keys 0 (λ m k q.
      let there : get_or ks m 0 ≡ i = ks_are m k ∙ ap (λ x. x / ENTRIES) q ∙ div-mul-add i ENTRIES n few in
      let value : get_or ws m 0 ≡ get_or values n 0 = ws_are m k ∙ ap (λ x. get_or values (x % ENTRIES) 0) q ∙ ap (λ x. get_or values x 0) (mod-mul-add i ENTRIES n few) in
      row_value-found z ks ws m i (ws_long ∙ sym ks_long) ks_up (subst (λ x. m < x) (sym ks_long) k) there ∙ value)) (are.all i n b l (sym e)) refl

  -- no other key has a row that no entry is in
  none_there : (i : ℕ) → All (λ r. r ≢ get_or listed i 0) rows → (m : ℕ) → m < length ks → get_or ks m 0 ≢ i
  none_there i none m l e =
      let k : m < length keys = omega arith in
      let is = key_at m k in
      let place : get_or keys m 0 / ENTRIES ≡ i = sym (ks_are m k) ∙ e in
      absurd (All-get_or (λ r. r ≢ get_or listed i 0) rows (get_or keys m 0 % ENTRIES) 0 is.entry none (sym is.row ∙ ap (λ p. get_or listed p 0) place))

  -- their rows and values are the column's in listed rows
  pub keys_listed : IsListed listed rows values ks ws
  keys_listed = record {
    same_length = ws_long ∙ sym ks_long;
    ascending = ks_up;
    inside = All-from_get_or (λ i. i < length listed) ks 0 (λ m l. let k : m < length keys = omega arith in subst (λ p. p < length listed) (sym (ks_are m k)) (key_at m k).place);
    held = All-from_get_or (Contains values) ws 0 (λ m l. let k : m < length keys = omega arith in subst (Contains values) (sym (ws_are m k)) (Contains-get_or values (get_or keys m 0 % ENTRIES) 0 (subst (λ n. get_or keys m 0 % ENTRIES < n) (sym long) (key_at m k).entry)));
    value = λ z i b. by_place rows (get_or listed i 0) (row_value z ks ws i ≡ row_value z rows values (get_or listed i 0))
        (λ n l e. value_there z i n b l e ∙ sym (row_value-found z rows values n (get_or listed i 0) long up l e))
        (λ none. row_value-absent z ks ws i (none_there i none) ∙ sym (row_value-absent z rows values (get_or listed i 0) (λ n l. All-get_or (λ r. r ≢ get_or listed i 0) rows n 0 l none)));
  }
