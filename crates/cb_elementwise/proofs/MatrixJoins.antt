-- Two matrices joined, column by column.
use Rattle.std.proofs.Common.{◌≡◌, ◌≢◌, ℕ, ◌+◌, ◌<◌, ◌≤◌, true, false, cond, ◌⊎◌, Bool, List, length, get_or, sym, refl, ap, ◌∙◌, ⊎_elim, arith, subst}
use Rattle.std.specs.Prelude.{All, AllPairs}
use Rattle.std.proofs.lemmas.Bool.{cases_lt}
use Rattle.std.proofs.lemmas.List.{get_or_default, get_or_past}
use Rattle.std.proofs.lemmas.List.Elements.{All-weaker, All-get_or}
use Rattle.cb_semirings.specs.Arithmetic.{Arithmetic, IsValue, IsSemiring}
use Rattle.cb_matrix.specs.Sparse.{Sparse, Extent, IsMatrix, IsInside, at, value_at}
use Rattle.cb_matrix.specs.Values.{empty_matrix, matrix_of}
use Rattle.cb_matrix.proofs.Made.{at-outside}
use Rattle.cb_matrix.proofs.Places.{value_at-none}
use Rattle.cb_matrix.proofs.Totals.{value_at-value}
use Rattle.cb_dcsc.specs.Columns.{in_column, rows_of, values_of, row_value, columns_with_entries}
use Rattle.cb_dcsc.proofs.NumbersOfColumns.{columns_inside}
use Rattle.cb_dcsc.specs.Compressed.{with_column}
use Rattle.cb_product.specs.InColumns.{AreInColumns}
use Rattle.cb_product.specs.SparseColumn.{IsSparseColumn}
use Rattle.cb_product.proofs.OwnColumn.{own_sparse}
use Rattle.cb_product.proofs.ProductColumns.{own_column}
use Rattle.cb_product.proofs.StoredColumn.{AddsColumn, column_adds, column_inside, none_of_column}
use Rattle.cb_product.proofs.ColumnsMade.{IsMadeTo, made_none, made_past, made_more, made_all, absent_value}
use Rattle.cb_elementwise.specs.JoinedColumns.{IsJoined}
use Rattle.cb_elementwise.specs.JoinedMatrices.{with_kept}

-- the first n of these columns are before column c
abbrev ArePast : List ℕ → ℕ → ℕ → Type 0
ArePast cs n c = (k : ℕ) → k < n → get_or cs k 0 < c

-- a column after the first n columns, and before the next one, isn't one of them
not_among : (cs : List ℕ) (bound n j : ℕ) → AllPairs (λ c d. c < d) cs → ArePast cs n j → j < get_or cs n bound → All (λ c. c ≢ j) cs
not_among cs bound n j up past next k d l same =
    let here : get_or cs k d ≡ get_or cs k 0 = get_or_default cs k d 0 l in
    ⊎_elim
    (λ (b : k < n). let w = past k b in absurd (omega arith))
    (λ (b : n ≤ k).
    let first : get_or cs n bound ≡ get_or cs n 0 = get_or_default cs n bound 0 (omega arith) in
    ⊎_elim
    (λ (m : n < k). let w : get_or cs n 0 < get_or cs k 0 = up n k 0 m l in absurd (omega arith))
    (λ (m : k ≤ n). let e : k ≡ n = omega arith in let w = ap (λ x. get_or cs x 0) e in absurd (omega arith))
    (cases_lt n k))
    (cases_lt k n)

-- of two lists of columns below a bound, which stands for the end of each, the list with the lower next one hasn't ended
pub lower_some : (cs ds : List ℕ) (bound x y : ℕ) → All (λ c. c < bound) ds → get_or cs x bound < get_or ds y bound → x < length cs
lower_some cs ds bound x y within less = ⊎_elim
    (λ (l : x < length cs). l)
    (λ (l : length cs ≤ x).
    let end = get_or_past cs x bound l in
    absurd (⊎_elim
    (λ (m : y < length ds). let b : get_or ds y bound < bound = All-get_or (λ c. c < bound) ds y bound m within in omega arith)
    (λ (m : length ds ≤ y). let other = get_or_past ds y bound m in omega arith)
    (cases_lt y (length ds))))
    (cases_lt x (length cs))

-- and neither of two whose next ones are the same has, if one hasn't
pub same_some : (cs ds : List ℕ) (bound x y : ℕ) → All (λ c. c < bound) cs → get_or cs x bound ≡ get_or ds y bound → x < length cs → y < length ds
same_some cs ds bound x y within same l = ⊎_elim
    (λ (m : y < length ds). m)
    (λ (m : length ds ≤ y). let end = get_or_past ds y bound m in let b : get_or cs x bound < bound = All-get_or (λ c. c < bound) cs x bound l within in absurd (omega arith))
    (cases_lt y (length ds))

-- the next ones that there are
pub lower_next : (cs ds : List ℕ) (bound x y : ℕ) → x < length cs → get_or cs x bound < get_or ds y bound → y < length ds → get_or cs x 0 < get_or ds y 0
lower_next cs ds bound x y l less m =
    let here : get_or cs x bound ≡ get_or cs x 0 = get_or_default cs x bound 0 l in
    let there : get_or ds y bound ≡ get_or ds y 0 = get_or_default ds y bound 0 m in
    omega arith

-- one more column is past
pub more_past : (cs : List ℕ) (n c : ℕ) → ArePast cs n c → get_or cs n 0 < c → ArePast cs (n + 1) c
more_past cs n c past here k l = ⊎_elim
    (λ (m : k < n). past k m)
    (λ (m : n ≤ k). let e : k ≡ n = omega arith in let w = ap (λ x. get_or cs x 0) e in omega arith)
    (cases_lt k n)

module _ (s : Arithmetic) (extent : Extent) (f : ℕ → ℕ → ℕ) (ls rs : List ℕ) where
  -- `out` has the columns before the x-th of some columns and before the y-th of others
  pub record IsWalkedTo (x y : ℕ) (out : Sparse) : Type 0 where
    pub left_within : x ≤ length ls
    pub right_within : y ≤ length rs
    pub made : (c : ℕ) → c ≤ get_or ls x extent.cols → c ≤ get_or rs y extent.cols → ArePast ls x c → ArePast rs y c → IsMadeTo s extent f c out
    pub left_past : y < length rs → ArePast ls x (get_or rs y 0)
    pub right_past : x < length ls → ArePast rs y (get_or ls x 0)

  module _ (left_up : AllPairs (λ c d. c < d) ls) (right_up : AllPairs (λ c d. c < d) rs) (absent : (i j : ℕ) → All (λ c. c ≢ j) ls → All (λ c. c ≢ j) rs → f i j ≡ s.zero) where
    -- before all columns
    pub walked_none : (out : Sparse) → IsMatrix s out → out ≡ empty_matrix extent → IsWalkedTo 0 0 out
    walked_none out is e = record {
      left_within = omega arith;
      right_within = omega arith;
      made = λ c l m p q. made_past s extent f out 0 c (omega arith) (λ i j b k. absent i j (not_among ls extent.cols 0 j left_up (λ k n. absurd (omega arith)) (omega arith)) (not_among rs extent.cols 0 j right_up (λ k n. absurd (omega arith)) (omega arith))) (made_none s extent f out is e);
      left_past = λ m k n. absurd (omega arith);
      right_past = λ m k n. absurd (omega arith);
    }

    -- with one more column
    pub walked_more : (x y c : ℕ) (old new : Sparse) (g : ℕ → ℕ) → x ≤ length ls → y ≤ length rs → ArePast ls x (c + 1) → ArePast rs y (c + 1) → (x < length ls → c < get_or ls x 0) → (y < length rs → c < get_or rs y 0) → ((d : ℕ) → ArePast ls x d → ArePast rs y d → c < d) → AddsColumn s c g old new → ((i : ℕ) → g i ≡ f i c) → IsMadeTo s extent f c old → IsWalkedTo x y new
    walked_more x y c old new g left_in right_in left_past right_past left_next right_next some adds same h = record {
      left_within = left_in;
      right_within = right_in;
      made = λ d l m p q. let b = some d p q in made_past s extent f new (c + 1) d (omega arith) (λ i j low high. absent i j (not_among ls extent.cols x j left_up (λ k n. let w = left_past k n in omega arith) (omega arith)) (not_among rs extent.cols y j right_up (λ k n. let w = right_past k n in omega arith) (omega arith))) (made_more s extent f old new c g adds same h);
      left_past = λ m k n. let w = left_past k n in let v = right_next m in omega arith;
      right_past = λ m k n. let w = right_past k n in let v = left_next m in omega arith;
    }

    module _ (left_in : All (λ c. c < extent.cols) ls) (right_in : All (λ c. c < extent.cols) rs) where
      -- up to the next left column, which comes before the next right one
      pub made_to_left : (x y : ℕ) (out : Sparse) → x < length ls → (y < length rs → get_or ls x 0 ≤ get_or rs y 0) → IsWalkedTo x y out → IsMadeTo s extent f (get_or ls x 0) out
      made_to_left x y out l before h =
          let here : get_or ls x extent.cols ≡ get_or ls x 0 = get_or_default ls x extent.cols 0 l in
          h.made (get_or ls x 0) (omega arith)
          (⊎_elim
          (λ (m : y < length rs). let next : get_or rs y extent.cols ≡ get_or rs y 0 = get_or_default rs y extent.cols 0 m in let b = before m in omega arith)
          (λ (m : length rs ≤ y). let end = get_or_past rs y extent.cols m in let b : get_or ls x 0 < extent.cols = All-get_or (λ c. c < extent.cols) ls x 0 l left_in in omega arith)
          (cases_lt y (length rs)))
          (λ k n. left_up k x 0 n l) (h.right_past l)

      -- one more left column, which the right side doesn't have
      pub walked_left : (x y : ℕ) (old new : Sparse) (g : ℕ → ℕ) → x < length ls → (y < length rs → get_or ls x 0 < get_or rs y 0) → AddsColumn s (get_or ls x 0) g old new → ((i : ℕ) → g i ≡ f i (get_or ls x 0)) → IsWalkedTo x y old → IsWalkedTo (x + 1) y new
      walked_left x y old new g l before adds same h =
          let c = get_or ls x 0 in
          walked_more (x + 1) y c old new g (omega arith) (h.right_within) (more_past ls x (c + 1) (λ k n. let w : get_or ls k 0 < get_or ls x 0 = left_up k x 0 n l in omega arith) (omega arith))
          (λ k n. let w = h.right_past l k n in omega arith) (λ m. left_up x (x + 1) 0 (omega arith) m) before (λ d p q. p x (omega arith)) adds same
          (made_to_left x y old l (λ m. let b = before m in omega arith) h)

      -- one more column of both
      pub walked_both : (x y : ℕ) (old new : Sparse) (g : ℕ → ℕ) → x < length ls → y < length rs → get_or ls x 0 ≡ get_or rs y 0 → AddsColumn s (get_or ls x 0) g old new → ((i : ℕ) → g i ≡ f i (get_or ls x 0)) → IsWalkedTo x y old → IsWalkedTo (x + 1) (y + 1) new
      walked_both x y old new g l m e adds same h =
          let c = get_or ls x 0 in
          walked_more (x + 1) (y + 1) c old new g (omega arith) (omega arith) (more_past ls x (c + 1) (λ k n. let w : get_or ls k 0 < get_or ls x 0 = left_up k x 0 n l in omega arith) (omega arith))
          (more_past rs y (c + 1) (λ k n. let w : get_or rs k 0 < get_or rs y 0 = right_up k y 0 n m in omega arith) (omega arith))
          (λ b. left_up x (x + 1) 0 (omega arith) b) (λ b. let w : get_or rs y 0 < get_or rs (y + 1) 0 = right_up y (y + 1) 0 (omega arith) b in omega arith) (λ d p q. p x (omega arith)) adds same
          (made_to_left x y old l (λ m. omega arith) h)

      -- with all columns, it is the matrix of f
      pub walked_all : IsSemiring s → (x y : ℕ) (out : Sparse) → length ls ≤ x → length rs ≤ y → IsWalkedTo x y out → out ≡ matrix_of s extent f
      walked_all laws x y out l m h =
          let left_end = get_or_past ls x extent.cols l in
          let right_end = get_or_past rs y extent.cols m in
          made_all s extent f laws out (h.made extent.cols (omega arith) (omega arith) (λ k n. All-get_or (λ c. c < extent.cols) ls k 0 (let w = h.left_within in omega arith) left_in) (λ k n. All-get_or (λ c. c < extent.cols) rs k 0 (let w = h.right_within in omega arith) right_in))

-- the columns the other way round
turned_walk : (s : Arithmetic) (extent : Extent) (f : ℕ → ℕ → ℕ) (ls rs : List ℕ) (x y : ℕ) (out : Sparse) → IsWalkedTo s extent f ls rs x y out → IsWalkedTo s extent f rs ls y x out
turned_walk s extent f ls rs x y out h = record {
  left_within = h.right_within;
  right_within = h.left_within;
  made = λ c l m p q. h.made c m l q p;
  left_past = h.right_past;
  right_past = h.left_past;
}

module _ (s : Arithmetic) (extent : Extent) (f : ℕ → ℕ → ℕ) (ls rs : List ℕ) (left_up : AllPairs (λ c d. c < d) ls) (right_up : AllPairs (λ c d. c < d) rs) (absent : (i j : ℕ) → All (λ c. c ≢ j) ls → All (λ c. c ≢ j) rs → f i j ≡ s.zero) (left_in : All (λ c. c < extent.cols) ls) (right_in : All (λ c. c < extent.cols) rs) where
  pub made_to_right : (x y : ℕ) (out : Sparse) → y < length rs → (x < length ls → get_or rs y 0 ≤ get_or ls x 0) → IsWalkedTo s extent f ls rs x y out → IsMadeTo s extent f (get_or rs y 0) out
  made_to_right x y out l before h = made_to_left s extent f rs ls right_up left_up (λ i j p q. absent i j q p) right_in left_in y x out l before (turned_walk s extent f ls rs x y out h)

  -- one more right column, which the left side doesn't have
  pub walked_right : (x y : ℕ) (old new : Sparse) (g : ℕ → ℕ) → y < length rs → (x < length ls → get_or rs y 0 < get_or ls x 0) → AddsColumn s (get_or rs y 0) g old new → ((i : ℕ) → g i ≡ f i (get_or rs y 0)) → IsWalkedTo s extent f ls rs x y old → IsWalkedTo s extent f ls rs x (y + 1) new
  walked_right x y old new g l before adds same h =
      turned_walk s extent f rs ls (y + 1) x new (walked_left s extent f rs ls right_up left_up (λ i j p q. absent i j q p) right_in left_in y x old new g l before adds same (turned_walk s extent f ls rs x y old h))

-- ---- the columns that are stored
-- the number of the nth column that has entries is inside the shape
pub column_within : (s : Arithmetic) (a : Sparse) → IsMatrix s a → (n : ℕ) → n < length (columns_with_entries a.entries) → (j : ℕ) → j ≡ get_or (columns_with_entries a.entries) n 0 → (cols : ℕ) → cols ≡ a.shape.cols → j < cols
column_within s a is n l j j_is cols same = let b : get_or (columns_with_entries a.entries) n 0 < a.shape.cols = All-get_or (λ c. c < a.shape.cols) (columns_with_entries a.entries) n 0 l (columns_inside s a (columns_with_entries a.entries) is refl) in omega arith

-- a column that is kept, or none
pub kept_adds : (s : Arithmetic) (a : Sparse) → IsMatrix s a → (j : ℕ) (k : Bool) (old new : Sparse) → All (λ e. e.column < j) old.entries → new ≡ with_kept k j a old → IsMatrix s new → AddsColumn s j (λ i. cond k (at s a i j) s.zero) old new
kept_adds s a is j true old new before e matrix =
    let rows = rows_of (in_column j a.entries) in
    let values = values_of (in_column j a.entries) in
    column_adds s j (λ i. at s a i j) rows values (own_sparse s a is j rows values refl refl) (own_column s a j rows values refl refl) old new before e matrix
kept_adds s a is j false old new before e matrix =
    let entries : new.entries ≡ old.entries = ap (λ (m : Sparse). m.entries) e in
    record {
      shape = ap (λ (m : Sparse). m.shape) e;
      matrix = matrix;
      here = λ i. ap (λ es. value_at s.zero es i j) entries ∙ value_at-none s.zero old.entries i j (none_of_column j i old.entries before);
      elsewhere = λ i k n. ap (λ es. value_at s.zero es i k) entries;
      up_to = rw entries (All-weaker (λ e. e.column < j) (λ e. e.column ≤ j) (λ e l. omega arith) old.entries before);
    }

module _ (s : Arithmetic) (laws : IsSemiring s) (f : ℕ → ℕ → ℕ) (zeros : f s.zero s.zero ≡ s.zero) (a b : Sparse) (left : IsMatrix s a) (right : IsMatrix s b) (same_shape : b.shape ≡ a.shape) where
  -- what f makes of the values at a place
  abbrev pub value_for : ℕ → ℕ → ℕ
  value_for i j = f (at s a i j) (at s b i j)

  -- a column that neither has is without values
  pub joined_absent : (ls rs : List ℕ) → AreInColumns ls a.entries → AreInColumns rs b.entries → (i j : ℕ) → All (λ c. c ≢ j) ls → All (λ c. c ≢ j) rs → value_for i j ≡ s.zero
  joined_absent ls rs left_in right_in i j l r = (λ t. f (absent_value s.zero a.entries ls i j left_in l t) (absent_value s.zero b.entries rs i j right_in r t)) ∙ zeros

  -- a column that the right side doesn't have
  pub left_alone : (rs : List ℕ) → AreInColumns rs b.entries → (k : Bool) → ((x : ℕ) → IsValue s x → f x s.zero ≡ cond k x s.zero) → (j : ℕ) → All (λ c. c ≢ j) rs → (i : ℕ) → cond k (at s a i j) s.zero ≡ value_for i j
  left_alone rs right_in k made j none i = sym (made (at s a i j) (value_at-value s laws a.entries i j left.values)) ∙ ap (f (at s a i j)) (sym (absent_value s.zero b.entries rs i j right_in none))

  -- a column that the left side doesn't have
  pub right_alone : (ls : List ℕ) → AreInColumns ls a.entries → (k : Bool) → ((x : ℕ) → IsValue s x → f s.zero x ≡ cond k x s.zero) → (j : ℕ) → All (λ c. c ≢ j) ls → (i : ℕ) → cond k (at s b i j) s.zero ≡ value_for i j
  right_alone ls left_in k made j none i = sym (made (at s b i j) (value_at-value s laws b.entries i j right.values)) ∙ ap (λ x. f x (at s b i j)) (sym (absent_value s.zero a.entries ls i j left_in none))

  module _ (j : ℕ) (ls lvs rs rvs ks ws : List ℕ) (ls_are : ls ≡ rows_of (in_column j a.entries)) (lvs_are : lvs ≡ values_of (in_column j a.entries)) (rs_are : rs ≡ rows_of (in_column j b.entries)) (rvs_are : rvs ≡ values_of (in_column j b.entries)) (kept : IsJoined s.zero f ls lvs rs rvs ks ws) where
    -- a joined column has the values that are for it
    pub joined_has : (i : ℕ) → row_value s.zero ks ws i ≡ value_for i j
    joined_has i = kept i ∙ (λ t. f (own_column s a j ls lvs ls_are lvs_are i t) (own_column s b j rs rvs rs_are rvs_are i t))

    -- in rows of the shape
    pub joined_inside : IsSparseColumn s ks ws → All (λ i. i < a.shape.rows) ks
    joined_inside column = column_inside s j (λ i. value_for i j) ks ws column joined_has a.shape.rows (λ i l.
        (λ t. f (at-outside s.zero a.shape a.entries i j left.inside (λ m _. omega arith) t) (at-outside s.zero a.shape b.entries i j (subst (λ d. All (IsInside d) b.entries) same_shape right.inside) (λ m _. omega arith) t)) ∙ zeros)

  -- ---- the walk over the columns of both
  module _ (ls rs : List ℕ) (ls_are : ls ≡ columns_with_entries a.entries) (rs_are : rs ≡ columns_with_entries b.entries) (left_up : AllPairs (λ c d. c < d) ls) (right_up : AllPairs (λ c d. c < d) rs)
      (left_in : All (λ c. c < a.shape.cols) ls) (right_in : All (λ c. c < b.shape.cols) rs) (left_all : AreInColumns ls a.entries) (right_all : AreInColumns rs b.entries) where
    abbrev IsWalked : ℕ → ℕ → Sparse → Type 0
    IsWalked x y out = IsWalkedTo s a.shape value_for ls rs x y out

    rs_in : All (λ c. c < a.shape.cols) rs
    rs_in = subst (λ (d : Extent). All (λ c. c < d.cols) rs) same_shape right_in

    no_values : (i j : ℕ) → All (λ c. c ≢ j) ls → All (λ c. c ≢ j) rs → value_for i j ≡ s.zero
    no_values = joined_absent ls rs left_all right_all

    -- before all columns
    pub walk_start : (out : Sparse) → IsMatrix s out → out ≡ empty_matrix a.shape → IsWalked 0 0 out
    walk_start out is e = walked_none s a.shape value_for ls rs left_up right_up no_values out is e

    -- after all
    pub walk_end : (x y : ℕ) (out : Sparse) → length ls ≤ x → length rs ≤ y → IsWalked x y out → out ≡ matrix_of s a.shape value_for
    walk_end x y out l m h = walked_all s a.shape value_for ls rs left_up right_up no_values left_in rs_in laws x y out l m h

    module _ (x y : ℕ) (out : Sparse) (lc rc end : ℕ) (end_is : end ≡ a.shape.cols) (lc_is : lc ≡ get_or ls x end) (rc_is : rc ≡ get_or rs y end) (h : IsWalked x y out) where
      left_is : lc ≡ get_or ls x a.shape.cols
      left_is = lc_is ∙ ap (get_or ls x) end_is

      right_is : rc ≡ get_or rs y a.shape.cols
      right_is = rc_is ∙ ap (get_or rs y) end_is

      -- the left column is next
      module _ (less : lc < rc) where
        below : get_or ls x a.shape.cols < get_or rs y a.shape.cols
        below = let p = left_is in let q = right_is in omega arith

        pub left_some : x < length ls
        left_some = lower_some ls rs a.shape.cols x y rs_in below

        left_next : y < length rs → get_or ls x 0 < get_or rs y 0
        left_next = lower_next ls rs a.shape.cols x y left_some below

        made_left : IsMadeTo s a.shape value_for (get_or ls x 0) out
        made_left = made_to_left s a.shape value_for ls rs left_up right_up no_values left_in rs_in x y out left_some (λ m. let w = left_next m in omega arith) h

        pub left_made : IsMadeTo s a.shape value_for (get_or (columns_with_entries a.entries) x 0) out
        left_made = subst (λ cs. IsMadeTo s a.shape value_for (get_or cs x 0) out) ls_are made_left

        pub left_step : (k : Bool) → ((v : ℕ) → IsValue s v → f v s.zero ≡ cond k v s.zero) → (new : Sparse) → new ≡ with_kept k (get_or (columns_with_entries a.entries) x 0) a out → IsMatrix s new → IsWalked (x + 1) y new
        left_step k made new e matrix =
            let j = get_or ls x 0 in
            let here : get_or ls x a.shape.cols ≡ j = get_or_default ls x a.shape.cols 0 left_some in
            let b = below in
            let adds = kept_adds s a left j k out new made_left.before (e ∙ ap (λ cs. with_kept k (get_or cs x 0) a out) (sym ls_are)) matrix in
            let none : All (λ c. c ≢ j) rs = not_among rs a.shape.cols y j right_up (h.right_past left_some) (omega arith) in
            walked_left s a.shape value_for ls rs left_up right_up no_values left_in rs_in x y out new (λ i. cond k (at s a i j) s.zero) left_some left_next adds (left_alone rs right_all k made j none) h

      -- the right column is next
      module _ (less : rc < lc) where
        above : get_or rs y a.shape.cols < get_or ls x a.shape.cols
        above = let p = left_is in let q = right_is in omega arith

        pub right_some : y < length rs
        right_some = lower_some rs ls a.shape.cols y x left_in above

        right_next : x < length ls → get_or rs y 0 < get_or ls x 0
        right_next = lower_next rs ls a.shape.cols y x right_some above

        made_right : IsMadeTo s a.shape value_for (get_or rs y 0) out
        made_right = made_to_right s a.shape value_for ls rs left_up right_up no_values left_in rs_in x y out right_some (λ m. let w = right_next m in omega arith) h

        pub right_made : IsMadeTo s a.shape value_for (get_or (columns_with_entries b.entries) y 0) out
        right_made = subst (λ cs. IsMadeTo s a.shape value_for (get_or cs y 0) out) rs_are made_right

        pub right_step : (k : Bool) → ((v : ℕ) → IsValue s v → f s.zero v ≡ cond k v s.zero) → (new : Sparse) → new ≡ with_kept k (get_or (columns_with_entries b.entries) y 0) b out → IsMatrix s new → IsWalked x (y + 1) new
        right_step k made new e matrix =
            let j = get_or rs y 0 in
            let here : get_or rs y a.shape.cols ≡ j = get_or_default rs y a.shape.cols 0 right_some in
            let b' = above in
            let adds = kept_adds s b right j k out new made_right.before (e ∙ ap (λ cs. with_kept k (get_or cs y 0) b out) (sym rs_are)) matrix in
            let none : All (λ c. c ≢ j) ls = not_among ls a.shape.cols x j left_up (h.left_past right_some) (omega arith) in
            walked_right s a.shape value_for ls rs left_up right_up no_values left_in rs_in x y out new (λ i. cond k (at s b i j) s.zero) right_some right_next adds (right_alone ls left_all k made j none) h

      -- both have the next column
      module _ (not_left : rc ≤ lc) (not_right : lc ≤ rc) (some : (x < length ls) ⊎ (y < length rs)) where
        same_next : get_or ls x a.shape.cols ≡ get_or rs y a.shape.cols
        same_next = let p = left_is in let q = right_is in omega arith

        pub both_left : x < length ls
        both_left = ⊎_elim (λ (l : x < length ls). l) (λ (m : y < length rs). same_some rs ls a.shape.cols y x rs_in (sym same_next) m) some

        pub both_right : y < length rs
        both_right = same_some ls rs a.shape.cols x y left_in same_next both_left

        same_column : get_or ls x 0 ≡ get_or rs y 0
        same_column = sym (get_or_default ls x a.shape.cols 0 both_left) ∙ same_next ∙ get_or_default rs y a.shape.cols 0 both_right

        pub column_is : lc ≡ get_or ls x 0
        column_is = left_is ∙ get_or_default ls x a.shape.cols 0 both_left

        pub both_made : IsMadeTo s a.shape value_for lc out
        both_made = subst (λ c. IsMadeTo s a.shape value_for c out) (sym column_is) (made_to_left s a.shape value_for ls rs left_up right_up no_values left_in rs_in x y out both_left (λ m. let e = same_column in omega arith) h)

        pub column_inside_shape : lc < a.shape.cols
        column_inside_shape = let e = column_is in let w : get_or ls x 0 < a.shape.cols = All-get_or (λ c. c < a.shape.cols) ls x 0 both_left left_in in omega arith

        module _ (lrs lvs rrs rvs : List ℕ) (lrs_are : lrs ≡ rows_of (in_column (get_or (columns_with_entries a.entries) x 0) a.entries)) (lvs_are : lvs ≡ values_of (in_column (get_or (columns_with_entries a.entries) x 0) a.entries))
            (rrs_are : rrs ≡ rows_of (in_column (get_or (columns_with_entries b.entries) y 0) b.entries)) (rvs_are : rvs ≡ values_of (in_column (get_or (columns_with_entries b.entries) y 0) b.entries)) where
          pub left_column : IsSparseColumn s lrs lvs
          left_column = own_sparse s a left (get_or (columns_with_entries a.entries) x 0) lrs lvs lrs_are lvs_are

          pub right_column : IsSparseColumn s rrs rvs
          right_column = own_sparse s b right (get_or (columns_with_entries b.entries) y 0) rrs rvs rrs_are rvs_are

          left_place : get_or (columns_with_entries a.entries) x 0 ≡ lc
          left_place = ap (λ cs. get_or cs x 0) (sym ls_are) ∙ sym column_is

          right_place : get_or (columns_with_entries b.entries) y 0 ≡ lc
          right_place = ap (λ cs. get_or cs y 0) (sym rs_are) ∙ sym same_column ∙ sym column_is

          module _ (ks ws : List ℕ) (column : IsSparseColumn s ks ws) (kept : IsJoined s.zero f lrs lvs rrs rvs ks ws) where
            has : (i : ℕ) → row_value s.zero ks ws i ≡ value_for i lc
            has = joined_has lc lrs lvs rrs rvs ks ws (lrs_are ∙ ap (λ j. rows_of (in_column j a.entries)) left_place) (lvs_are ∙ ap (λ j. values_of (in_column j a.entries)) left_place) (rrs_are ∙ ap (λ j. rows_of (in_column j b.entries)) right_place) (rvs_are ∙ ap (λ j. values_of (in_column j b.entries)) right_place) kept

            pub rows_inside_shape : All (λ i. i < a.shape.rows) ks
            rows_inside_shape = joined_inside lc lrs lvs rrs rvs ks ws (lrs_are ∙ ap (λ j. rows_of (in_column j a.entries)) left_place) (lvs_are ∙ ap (λ j. values_of (in_column j a.entries)) left_place) (rrs_are ∙ ap (λ j. rows_of (in_column j b.entries)) right_place) (rvs_are ∙ ap (λ j. values_of (in_column j b.entries)) right_place) kept column

            pub both_step : (new : Sparse) → new ≡ with_column out lc ks ws → IsMatrix s new → IsWalked (x + 1) (y + 1) new
            both_step new e matrix =
                let adds = column_adds s lc (λ i. value_for i lc) ks ws column has out new both_made.before e matrix in
                walked_both s a.shape value_for ls rs left_up right_up no_values left_in rs_in x y out new (λ i. value_for i lc) both_left both_right same_column (subst (λ j. AddsColumn s j (λ i. value_for i lc) out new) column_is adds) (λ i. ap (value_for i) column_is) h
