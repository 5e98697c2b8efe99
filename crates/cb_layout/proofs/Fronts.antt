-- The next column of each block in a column of the grid.
use Rattle.std.proofs.Common.{◌≡◌, ◌≢◌, ℕ, ◌+◌, ◌<◌, ◌≤◌, ◌⊎◌, inl, inr, List, [], ◌∷◌, length, get_or, set, refl, sym, ap, ⊎_elim, ◌∙◌, arith}
use Rattle.std.specs.Prelude.{All, AllPairs, Option, Some, None, IfNone}
use Rattle.std.proofs.lemmas.Bool.{cases_lt, cases_eq, cases_order}
use Rattle.std.proofs.lemmas.List.{get_or_past, get_or_default, get_or-set_same, get_or-set_other}
use Rattle.std.proofs.lemmas.List.Elements.{All-nil, All-cons, All-weaker}
use Rattle.cb_matrix.specs.Sparse.{Extent, Sparse}
use Rattle.cb_matrix.proofs.Pairs.{AllPairs-head}
use Rattle.cb_layout.specs.Fronts.{columns_in, IsLeast, AreNext, IsFront}
use Rattle.cb_layout.specs.declared.front.Front.{Front}

-- what follows from a fact for None
pub if_none : (o : Option (ℕ × ℕ)) (P Q : Type 0) → IfNone o P → (P → Q) → IfNone o Q
if_none (Some t) P Q h k = tt
if_none None P Q h k = k h

-- the first of numbers that ascend is at most each of them
pub first_is_least : (cs : List ℕ) (d : ℕ) → AllPairs (λ c d. c < d) cs → All (λ c. get_or cs 0 d ≤ c) cs
first_is_least [] d h = All-nil (λ c. get_or [] 0 d ≤ c)
first_is_least (c ∷ cs) d h = All-cons (λ x. c ≤ x) c cs (omega arith) (All-weaker (λ x. c < x) (λ x. c ≤ x) (λ x l. omega arith) cs (AllPairs-head (λ c d. c < d) c cs h))

-- of numbers that ascend each is below the nth, is the nth, or is from the one after it on
pub none_between : (cs : List ℕ) (n d : ℕ) → n < length cs → AllPairs (λ c d. c < d) cs → All (λ c. (c < get_or cs n 0) ⊎ ((c ≡ get_or cs n 0) ⊎ (get_or cs (n + 1) d ≤ c))) cs
none_between cs n d l up k e m =
    let here : get_or cs n 0 ≡ get_or cs n e = get_or_default cs n 0 e l in
    ⊎_elim
    (λ (p : k ≡ n). inr (inl (ap (λ x. get_or cs x e) p ∙ sym here)))
    (⊎_elim
    (λ (p : k < n). let less : get_or cs k e < get_or cs n e = up k n e p l in inl (omega arith))
    (λ (p : n < k).
    let within : n + 1 < length cs = omega arith in
    let next : get_or cs (n + 1) d ≡ get_or cs (n + 1) e = get_or_default cs (n + 1) d e within in
    ⊎_elim
    (λ (q : n + 1 < k). let less : get_or cs (n + 1) e < get_or cs k e = up (n + 1) k e q m in inr (inr (omega arith)))
    (λ (q : k ≤ n + 1). let same : k ≡ n + 1 = omega arith in let at : get_or cs k e ≡ get_or cs (n + 1) e = ap (λ x. get_or cs x e) same in inr (inr (omega arith)))
    (cases_lt (n + 1) k)))
    (cases_order k n)

-- the one after the nth, or a greater number if there is none, is above it
pub next_above : (cs : List ℕ) (n d : ℕ) → n < length cs → AllPairs (λ c d. c < d) cs → get_or cs n 0 < d → get_or cs n 0 < get_or cs (n + 1) d
next_above cs n d l up below =
    ⊎_elim
    (λ (m : n + 1 < length cs).
    let less : get_or cs n 0 < get_or cs (n + 1) 0 = up n (n + 1) 0 (omega arith) m in
    let next : get_or cs (n + 1) d ≡ get_or cs (n + 1) 0 = get_or_default cs (n + 1) d 0 m in
    omega arith)
    (λ (m : length cs ≤ n + 1). let past : get_or cs (n + 1) d ≡ d = get_or_past cs (n + 1) d m in omega arith)
    (cases_lt (n + 1) (length cs))

module _ (q : ℕ) (shape : Extent) (blocks : List Sparse) (f : Front) (front : IsFront q shape blocks f) (i c : ℕ) (least : IsLeast q f.columns i c) where
  abbrev cs : List ℕ
  cs = columns_in q blocks f.column i

  abbrev n : ℕ
  n = get_or f.done i 0

  -- the block in the row of the least column has a column that is not done
  pub least_known : n < length cs
  least_known =
      ⊎_elim
      (λ (k : n < length cs). k)
      (λ (k : length cs ≤ n).
      let e = front.next i least.row ∙ get_or_past cs n 4294967295 k in
      let t = least.there in let s = least.some in
      absurd (omega arith))
      (cases_lt n (length cs))

  -- the least column is the first of them
  pub least_is : c ≡ get_or cs n 0
  least_is = least.there ∙ front.next i least.row ∙ get_or_default cs n 4294967295 0 least_known

  -- the front after it
  module _ (g : Front) (column : g.column ≡ f.column) (left : g.left ≡ f.left) (done : g.done ≡ set f.done i (n + 1)) (columns : g.columns ≡ set f.columns i (get_or cs (n + 1) 4294967295)) where
    -- in that row the front after it has the block's next column, or 2^32 - 1 if no column is left
    pub next_own : get_or g.columns i 0 ≡ get_or cs (n + 1) 4294967295
    next_own = ap (λ xs. get_or xs i 0) columns ∙ get_or-set_same f.columns i (get_or cs (n + 1) 4294967295) 0 (let r = least.row in let few = front.few in let s = front.all_columns in omega arith)

    -- in each other row it has the column that was there
    pub next_other : (k : ℕ) → k ≢ i → get_or g.columns k 0 ≡ get_or f.columns k 0
    next_other k ne = ap (λ xs. get_or xs k 0) columns ∙ get_or-set_other f.columns i k (get_or cs (n + 1) 4294967295) 0 ne

    done_own : get_or g.done i 0 ≡ n + 1
    done_own = ap (λ xs. get_or xs i 0) done ∙ get_or-set_same f.done i (n + 1) 0 (let r = least.row in let few = front.few in let s = front.all_done in omega arith)

    done_other : (k : ℕ) → k ≢ i → get_or g.done k 0 ≡ get_or f.done k 0
    done_other k ne = ap (λ xs. get_or xs k 0) done ∙ get_or-set_other f.done i k (n + 1) 0 ne

    -- the columns of the front after it are the next ones of the blocks
    pub are_next : AreNext q blocks g.column g.done g.columns
    are_next k l =
        ⊎_elim
        (λ (p : k ≡ i). ap (λ x. get_or g.columns x 0) p ∙ next_own ∙ (λ t. get_or (columns_in q blocks (sym column t) (sym p t)) (sym (ap (λ x. get_or g.done x 0) p ∙ done_own) t) 4294967295))
        (λ (p : k ≢ i). next_other k p ∙ front.next k l ∙ (λ t. get_or (columns_in q blocks (sym column t) k) (sym (done_other k p) t) 4294967295))
        (cases_eq k i)

-- of the first n rows, row i is the first that has the least column, if one of them has a column
pub record IsLeastSoFar (columns : List ℕ) (n i c : ℕ) : Type 0 where
  pub least : (k : ℕ) → k < n → c ≤ get_or columns k 0
  pub found : c < 4294967295 → (i < n) × (c ≡ get_or columns i 0) × ((k : ℕ) → k < i → c < get_or columns k 0)

-- before the first row
pub least_at_first : (columns : List ℕ) (i : ℕ) → IsLeastSoFar columns 0 i 4294967295
least_at_first columns i = record { least = λ k l. absurd (omega arith); found = λ s. absurd (omega arith) }

module _ (columns : List ℕ) (n i c : ℕ) (so_far : IsLeastSoFar columns n i c) where
  -- a row with a lesser column
  pub least_changed : get_or columns n 0 < c → IsLeastSoFar columns (n + 1) n (get_or columns n 0)
  least_changed less = record {
    least = λ k l.
        ⊎_elim
        (λ (m : k < n). let h = so_far.least k m in omega arith)
        (λ (m : n ≤ k). let e : n ≡ k = omega arith in let h : get_or columns n 0 ≡ get_or columns k 0 = ap (λ x. get_or columns x 0) e in omega arith)
        (cases_lt k n);
    found = λ s. (omega arith, refl, λ k l. let h = so_far.least k l in omega arith);
  }

  -- a row without one
  pub least_kept : c ≤ get_or columns n 0 → IsLeastSoFar columns (n + 1) i c
  least_kept more = record {
    least = λ k l.
        ⊎_elim
        (λ (m : k < n). so_far.least k m)
        (λ (m : n ≤ k). let e : n ≡ k = omega arith in let h : get_or columns n 0 ≡ get_or columns k 0 = ap (λ x. get_or columns x 0) e in omega arith)
        (cases_lt k n);
    found = λ s. let f = so_far.found s in let l = f.0 in (omega arith, f.1, f.2);
  }
