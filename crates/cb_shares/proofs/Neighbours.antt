-- Panels that are joined, and blocks whose columns are before those of others.
use Rattle.std.proofs.Common.{◌≡◌, ℕ, ◌<◌, ◌≤◌, inl, true, false, cond, Bool, List, [], ◌∷◌, ◌++◌, filter, refl, ap, ◌∙◌, subst, ⊎_elim, arith}
use Rattle.std.specs.Prelude.{All, AllPairs}
use Rattle.std.proofs.lemmas.Bool.{cases_lt, false_from_ne_true}
use Rattle.std.proofs.lemmas.List.Elements.{All-head, All-tail, All-cons, All-weaker}
use Rattle.cb_semirings.specs.Arithmetic.{Arithmetic}
use Rattle.cb_matrix.specs.declared.Entry.{Entry}
use Rattle.cb_matrix.specs.Sparse.{Sparse, Extent, IsMatrix, IsBefore}
use Rattle.cb_matrix.proofs.Pairs.{AllPairs-head, AllPairs-tail}
use Rattle.cb_dcsc.specs.Columns.{columns_with_entries, with_entries}
use Rattle.cb_dcsc.proofs.Appended.{matrix_append}
use Rattle.cb_dcsc.proofs.NumbersOfColumns.{entries_all}
use Rattle.cb_product.specs.InColumns.{is_among}
use Rattle.cb_shares.specs.Shares.{columns_from, panel, AreBefore, JoinsPanels}
use Rattle.cb_shares.proofs.Ranges.{range_holds, range_has, same_answer, kept_same, all_columns}

-- whether an entry is in a range of columns
abbrev pub in_range : ℕ → ℕ → Entry → Bool
in_range first end e = is_among (columns_from first end) e.column

pub none_kept : (p : Entry → Bool) (es : List Entry) → All (λ e. p e ≡ false) es → filter p es ≡ []
none_kept p [] h = refl
none_kept p (e ∷ es) h = let here = All-head (λ e. p e ≡ false) e es h in (λ i. cond (here i) (e ∷ filter p es) (filter p es)) ∙ none_kept p es (All-tail (λ e. p e ≡ false) e es h)

-- an entry before the end of a range isn't in the next one
pub not_next : (q r : ℕ) (e : Entry) → e.column < q → in_range q r e ≡ false
not_next q r e l = false_from_ne_true (in_range q r e) (λ t. let h = range_holds q r e.column t in let h0 = h.0 in absurd (omega arith))

-- an entry after it isn't in the range
pub not_in : (p q : ℕ) (e : Entry) → q ≤ e.column → in_range p q e ≡ false
not_in p q e l = false_from_ne_true (in_range p q e) (λ t. let h = range_holds p q e.column t in let h1 = h.1 in absurd (omega arith))

-- of both ranges it is in the first
in_front : (p q r : ℕ) (e : Entry) → q ≤ r → e.column < q → in_range p q e ≡ in_range p r e
in_front p q r e m l =
    same_answer (in_range p q e) (in_range p r e)
    (λ t. let h = range_holds p q e.column t in let h0 = h.0 in range_has p r e.column h0 (omega arith))
    (λ t. let h = range_holds p r e.column t in let h0 = h.0 in range_has p q e.column h0 l)

-- or in the second
in_back : (p q r : ℕ) (e : Entry) → p ≤ q → q ≤ e.column → in_range q r e ≡ in_range p r e
in_back p q r e m l =
    same_answer (in_range q r e) (in_range p r e)
    (λ t. let h = range_holds q r e.column t in let h1 = h.1 in range_has p r e.column (omega arith) h1)
    (λ t. let h = range_holds p r e.column t in let h1 = h.1 in range_has q r e.column l h1)

-- entries in order, those in a range and then those in the next one, are those in both
both_kept : (p q r : ℕ) → p ≤ q → q ≤ r → (es : List Entry) → AllPairs IsBefore es → filter (in_range p q) es ++ filter (in_range q r) es ≡ filter (in_range p r) es
both_kept p q r l m [] up = refl
both_kept p q r l m (e ∷ es) up =
    let front : List Entry = filter (in_range p q) es in
    let back : List Entry = filter (in_range q r) es in
    let both : List Entry = filter (in_range p r) es in
    ⊎_elim
    (λ (k : e.column < q).
    let rest : front ++ back ≡ both = both_kept p q r l m es (AllPairs-tail IsBefore e es up) in
    let no = not_next q r e k in
    let same = in_front p q r e m k in
    (λ i. cond (in_range p q e) (e ∷ front) front ++ cond (no i) (e ∷ back) back)
    ∙ elim (in_range p q e) as (λ b. cond b (e ∷ front) front ++ back ≡ cond b (e ∷ both) both) [ true ↦ ap (λ xs. e ∷ xs) rest | false ↦ rest ]
    ∙ (λ i. cond (same i) (e ∷ both) both))
    (λ (k : q ≤ e.column).
    let later : All (λ d. q ≤ d.column) (e ∷ es) =
    All-cons (λ d. q ≤ d.column) e es k
    (All-weaker (IsBefore e) (λ d. q ≤ d.column) (λ d b. ⊎_elim (λ (f : e.column < d.column). omega arith) (λ (f : (e.column ≡ d.column) × (e.row < d.row)). let f0 = f.0 in omega arith) b) es (AllPairs-head IsBefore e es up)) in
    let none = none_kept (in_range p q) (e ∷ es) (All-weaker (λ d. q ≤ d.column) (λ d. in_range p q d ≡ false) (λ d h. not_in p q d h) (e ∷ es) later) in
    ap (λ xs. xs ++ filter (in_range q r) (e ∷ es)) none
    ∙ kept_same (columns_from q r) (columns_from p r) (e ∷ es) (All-weaker (λ d. q ≤ d.column) (λ d. in_range q r d ≡ in_range p r d) (λ d h. in_back p q r d l h) (e ∷ es) later))
    (cases_lt e.column q)

-- two neighbouring panels, one after the other, are the panel of both ranges
pub neighbours_joined : (s : Arithmetic) (whole : Sparse) → IsMatrix s whole → (p q r : ℕ) → p ≤ q → q ≤ r → with_entries (panel whole p q) (panel whole q r).entries ≡ panel whole p r
neighbours_joined s whole is p q r l m i = record { shape = whole.shape; entries = both_kept p q r l m whole.entries is.ascending i }

-- the same where all entries of both are in a third matrix, which is the whole if the ranges are all columns
pub joins : (s : Arithmetic) (front back made : Sparse) → made ≡ with_entries front back.entries → JoinsPanels s front back made
joins s front back made h whole is p q r l m first last =
    let both : made ≡ panel whole p r = h ∙ (λ t. with_entries (first t) (last t).entries) ∙ neighbours_joined s whole is p q r l m in
    (both, λ z k. both ∙ ap (λ n. panel whole n r) z ∙ all_columns s whole r is k)

-- entries whose columns are before those of others make a matrix with these
pub before_matrix : (s : Arithmetic) (front back : Sparse) → IsMatrix s front → IsMatrix s back → back.shape ≡ front.shape → AreBefore front.entries back.entries → IsMatrix s (with_entries front back.entries)
before_matrix s front back f b same before =
    let later : (c : ℕ) → All (λ d. c < d) (columns_with_entries back.entries) → All (λ e. c < e.column) back.entries = λ c h. entries_all (λ d. c < d) back.entries h in
    matrix_append s front back.entries f
    (subst (λ (shape : Extent). IsMatrix s (record { shape = shape; entries = back.entries })) same b)
    (All-weaker (λ d. All (λ e. d.column < e.column) back.entries) (λ d. All (IsBefore d) back.entries)
    (λ d h. All-weaker (λ e. d.column < e.column) (IsBefore d) (λ e k. inl k) back.entries h)
    front.entries
    (entries_all (λ c. All (λ e. c < e.column) back.entries) front.entries
    (All-weaker (λ c. All (λ d. c < d) (columns_with_entries back.entries)) (λ c. All (λ e. c < e.column) back.entries) later (columns_with_entries front.entries) before)))
