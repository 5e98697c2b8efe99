-- The columns of another block, after all others. The first of them may continue the last column.
use Rattle.std.proofs.Common.{◌≡◌, ℕ, zero, suc, ◌+◌, ◌-◌, ◌<◌, ◌≤◌, ◌⊎◌, inl, inr, Bool, true, false, List, [], ◌∷◌, ◌++◌, length, map, take, drop, get_or, sym, refl, ap, ◌∙◌, subst, arith, append_assoc, append-nil, length-take, length-drop, length-append, ⊎_elim}
use Rattle.std.specs.Int.{from_bool}
use Rattle.std.specs.Prelude.{◌↔◌, IsTrue}
use Rattle.std.proofs.lemmas.Bool.{false≢true}
use Rattle.std.proofs.lemmas.List.{take_all, take_more, get_or-drop, get_or_push, length_push, map-append}
use Rattle.cb_semirings.specs.Arithmetic.{Arithmetic}
use Rattle.cb_matrix.specs.declared.Entry.{Entry}
use Rattle.cb_matrix.specs.Sparse.{Sparse, Extent, IsMatrix}
use Rattle.cb_dcsc.specs.Compressed.{AreColumns, IsBlock, all_entries, block_of, opened, part, piece, pieces, with_column}
use Rattle.cb_dcsc.specs.Columns.{with_entries}
use Rattle.cb_dcsc.proofs.Appended.{matrix_front, pieces_front}
use Rattle.cb_dcsc.proofs.Held.{length-part, same_parts, start_within}
use Rattle.cb_dcsc.proofs.NextColumn.{is_next_column, is_column_part}
use Rattle.cb_dcsc.proofs.Ranges.{range_join}
use Rattle.cb_dcsc.proofs.WholeColumn.{all_more, column_pushed}

opened_some : (xs : List ℕ) → 0 < length xs → opened xs ≡ xs
opened_some [] h = absurd (omega arith)
opened_some (x ∷ xs) h = refl

-- a list of some elements ends with the last of them
last_of : (xs : List ℕ) (n : ℕ) → length xs ≡ n + 1 → take n xs ++ get_or xs n 0 ∷ [] ≡ xs
last_of xs n e = sym (take_more xs n 0 (omega arith)) ∙ take_all (n + 1) xs (omega arith)

-- whether a column is shared, as a number
pub shared_or_not : (b : Bool) (P : Type 0) (shared : ℕ) → shared ≡ from_bool b → IsTrue b ↔ P → ((shared ≡ 1) × P) ⊎ ((shared ≡ 0) × (P → ⊥))
shared_or_not true P shared e h = inl (e, h.0 refl)
shared_or_not false P shared e h = inr (e, λ p. false≢true (h.1 p))

pub one_shared : (b : Bool) (shared : ℕ) → shared ≡ from_bool b → shared ≤ 1
one_shared true shared e = omega arith
one_shared false shared e = omega arith

-- The lists of a block whose last column goes on with the first `shared` columns of another, and then has its other columns.
-- `front` has the starts without the end of such a column.
module _ (s : Arithmetic) (shape : Extent) (cs front rs vs : List ℕ) (m : Sparse) (ct st rt vt : List ℕ) (are : AreColumns ct st rt vt) (shared : ℕ) where
  abbrev its : ℕ → List Entry
  its k = piece ct st rt vt k

  abbrev end_of : ℕ → ℕ
  end_of e = e + length rs

  abbrev columns_to : ℕ → List ℕ
  columns_to k = cs ++ take k (drop shared ct)

  abbrev starts_to : ℕ → List ℕ
  starts_to n = front ++ map end_of (take n (drop 1 st))

  abbrev rows_to : ℕ → List ℕ
  rows_to n = rs ++ take (get_or st n 0) rt

  abbrev values_to : ℕ → List ℕ
  values_to n = vs ++ take (get_or st n 0) vt

  -- with the first k columns that aren't shared
  abbrev AreTo : ℕ → Type 0
  AreTo k =
      IsBlock s shape (columns_to k) (starts_to (shared + k)) (rows_to (shared + k)) (values_to (shared + k))
      × (block_of shape (columns_to k) (starts_to (shared + k)) (rows_to (shared + k)) (values_to (shared + k)) ≡ with_entries m (pieces its (shared + k)))

  module _ (matrix : IsMatrix s (with_entries m (pieces its (length ct)))) (some : 0 < length front) (new : shared < length ct → (0 < length cs) × (get_or cs (length cs - 1) 0 ≡ get_or ct shared 0) → ⊥) where
    -- the last column is none of the others
    not_last : (k : ℕ) → shared + k < length ct → (0 < length (columns_to k)) × (get_or (columns_to k) (length (columns_to k) - 1) 0 ≡ get_or ct (shared + k) 0) → ⊥
    not_last zero l e =
        let same : shared + 0 ≡ shared = omega arith in
        let whole : columns_to 0 ≡ cs = append-nil cs in
        new (omega arith) (subst (λ xs. 0 < length xs) whole e.0, ap (λ xs. get_or xs (length xs - 1) 0) (sym whole) ∙ e.1 ∙ ap (λ i. get_or ct i 0) same)
    not_last (suc k) l e =
        let d = drop shared ct in
        let in_d : k < length d = simp length-drop (omega arith) in
        let up : k + 1 ≡ suc k = omega arith in
        let grows : columns_to (suc k) ≡ columns_to k ++ get_or d k 0 ∷ [] = ap (λ i. cs ++ take i d) (sym up) ∙ ap (λ xs. cs ++ xs) (take_more d k 0 in_d) ∙ sym (append_assoc cs (take k d) (get_or d k 0 ∷ [])) in
        let count = length_push (columns_to k) (get_or d k 0) in
        let place : length (columns_to k ++ get_or d k 0 ∷ []) - 1 ≡ length (columns_to k) = omega (arith, count) in
        let last : get_or (columns_to (suc k)) (length (columns_to (suc k)) - 1) 0 ≡ get_or ct (shared + k) 0 =
        ap (λ xs. get_or xs (length xs - 1) 0) grows ∙ ap (λ i. get_or (columns_to k ++ get_or d k 0 ∷ []) i 0) place ∙ get_or_push (columns_to k) (get_or d k 0) 0 (length (columns_to k)) refl ∙ get_or-drop shared ct k 0 in
        let less : get_or ct (shared + k) 0 < get_or ct (shared + suc k) 0 = are.ascending (shared + k) (shared + suc k) 0 (omega arith) l in
        let is = sym last ∙ e.1 in
        omega (arith, less, is)

    -- one column more
    grow : AreTo 0 → (k : ℕ) → shared + k ≤ length ct → AreTo k
    unfolding pieces
    grow first zero l = first
    grow first (suc k) l =
        let n = shared + k in
        let next : shared + suc k ≡ suc n = omega arith in
        let up : n + 1 ≡ suc n = omega arith in
        let within : n < length ct = omega (arith, l) in
        let j = get_or ct n 0 in
        let js = part st rt n in
        let ws = part st vt n in
        let b = grow first k (omega (arith, l)) in
        let rises = are.rising n within in
        let here = start_within ct st rt vt are n (omega (arith, within)) in
        let count = length-part ct st rt vt are rt n refl within in
        let same = same_parts ct st rt vt are n within in
        let none : length js ≡ 0 → ⊥ = λ z. omega (arith, z, count, rises) in
        let later = pieces_front its (suc n) (length ct - suc n) (length ct) (omega (arith, within)) in
        let all : m.entries ++ pieces its (length ct) ≡ ((m.entries ++ pieces its n) ++ its n) ++ later.0 =
        ap (λ xs. m.entries ++ xs) later.1 ∙ sym (append_assoc m.entries (pieces its n ++ its n) later.0) ∙ ap (λ xs. xs ++ later.0) (sym (append_assoc m.entries (pieces its n) (its n))) in
        let whole : IsMatrix s (with_column (with_entries m (pieces its n)) j js ws) =
        matrix_front s m.shape ((m.entries ++ pieces its n) ++ its n) later.0 (subst (λ es. IsMatrix s (record { shape = m.shape; entries = es })) all matrix) in
        let is = is_next_column s shape (columns_to k) (starts_to n) (rows_to n) (values_to n) b.0 (with_entries m (pieces its n)) b.1 j js ws same none whole (not_last k within) in
        let d = drop shared ct in
        let in_d : k < length d = simp length-drop (omega (arith, within)) in
        let up' : k + 1 ≡ suc k = omega arith in
        let columns_are : columns_to (suc k) ≡ columns_to k ++ j ∷ [] =
        ap (λ i. cs ++ take i d) (sym up') ∙ ap (λ xs. cs ++ xs) (take_more d k 0 in_d) ∙ sym (append_assoc cs (take k d) (get_or d k 0 ∷ [])) ∙ ap (λ x. columns_to k ++ x ∷ []) (get_or-drop shared ct k 0) in
        let one = are.one_more_start (omega (arith, within)) in
        let ends = drop 1 st in
        let in_ends : n < length ends = simp length-drop (omega (arith, within, one)) in
        let end_at : get_or ends n 0 ≡ get_or st (n + 1) 0 = get_or-drop 1 st n 0 ∙ (let e : 1 + n ≡ n + 1 = omega arith in ap (λ i. get_or st i 0) e) in
        let longer : take (n + 1) ends ≡ take n ends ++ get_or ends n 0 ∷ [] = take_more ends n 0 in_ends in
        let more : starts_to (n + 1) ≡ starts_to n ++ end_of (get_or st (n + 1) 0) ∷ [] =
        ap (λ xs. front ++ map end_of xs) longer ∙ ap (λ xs. front ++ xs) (map-append end_of (take n ends) (get_or ends n 0 ∷ []))
        ∙ sym (append_assoc front (map end_of (take n ends)) (end_of (get_or ends n 0) ∷ [])) ∙ ap (λ x. starts_to n ++ end_of x ∷ []) end_at in
        let long : 0 < length (starts_to n) = (let e = length-append front (map end_of (take n ends)) in omega (arith, e, some)) in
        let starts_are : starts_to (suc n) ≡ opened (starts_to n) ++ end_of (get_or st (n + 1) 0) ∷ [] = ap starts_to (sym up) ∙ more ∙ ap (λ xs. xs ++ end_of (get_or st (n + 1) 0) ∷ []) (sym (opened_some (starts_to n) long)) in
        let rows_are : rows_to (suc n) ≡ rows_to n ++ js =
        ap rows_to (sym up) ∙ ap (λ xs. rs ++ xs) (sym (range_join (get_or st n 0) (get_or st (n + 1) 0) rt (omega (arith, rises)))) ∙ sym (append_assoc rs (take (get_or st n 0) rt) js) in
        let values_are : values_to (suc n) ≡ values_to n ++ ws =
        ap values_to (sym up) ∙ ap (λ xs. vs ++ xs) (sym (range_join (get_or st n 0) (get_or st (n + 1) 0) vt (omega (arith, rises)))) ∙ sym (append_assoc vs (take (get_or st n 0) vt) ws) in
        let so_far : length (take (get_or st n 0) rt) ≡ get_or st n 0 = simp length-take (omega (arith, here)) in
        let both = length-append rs (take (get_or st n 0) rt) in
        let end_is : end_of (get_or st (n + 1) 0) ≡ length (rows_to n) + length js = omega (arith, so_far, both, count, rises) in
        let pushed = column_pushed s shape (columns_to k) (starts_to n) (rows_to n) (values_to n) b.0 (with_entries m (pieces its n)) b.1 j is.before js ws
        (columns_to (suc k)) (starts_to (suc n)) (rows_to (suc n)) (values_to (suc n)) (end_of (get_or st (n + 1) 0)) none same is.ascending is.rows is.column is.values is.not_zero columns_are starts_are end_is rows_are values_are in
        let result : IsBlock s shape (columns_to (suc k)) (starts_to (suc n)) (rows_to (suc n)) (values_to (suc n)) × (block_of shape (columns_to (suc k)) (starts_to (suc n)) (rows_to (suc n)) (values_to (suc n)) ≡ with_entries m (pieces its (suc n))) =
        (pushed.0, pushed.1 ∙ (λ t. record { shape = m.shape; entries = append_assoc m.entries (pieces its n) (its n) t })) in
        rw next result

    -- all columns
    pub all_grown : AreTo 0 → shared ≤ length ct → 0 < length ct → (C S R V : List ℕ) → C ≡ cs ++ drop shared ct → S ≡ front ++ map end_of (drop 1 st) → R ≡ rs ++ rt → V ≡ vs ++ vt
        → IsBlock s shape C S R V × (block_of shape C S R V ≡ with_entries m (pieces its (length ct)))
    all_grown first l more C S R V p q r t =
        let k = length ct - shared in
        let to : shared + k ≡ length ct = omega (arith, l) in
        let g = rw to at (grow first k (omega (arith, l))) in
        let one = are.one_more_start more in
        let columns_all : columns_to k ≡ C = ap (λ xs. cs ++ xs) (take_all k (drop shared ct) (simp length-drop (omega arith))) ∙ sym p in
        let starts_all : starts_to (length ct) ≡ S = ap (λ xs. front ++ map end_of xs) (take_all (length ct) (drop 1 st) (simp length-drop (omega (arith, one)))) ∙ sym q in
        let last = are.last in
        let long = are.same_length in
        let rows_all : rows_to (length ct) ≡ R = ap (λ xs. rs ++ xs) (take_all (get_or st (length ct) 0) rt (omega (arith, last))) ∙ sym r in
        let values_all : values_to (length ct) ≡ V = ap (λ xs. vs ++ xs) (take_all (get_or st (length ct) 0) vt (omega (arith, last, long))) ∙ sym t in
        rw (sym columns_all, sym starts_all, sym rows_all, sym values_all) g

module _ (s : Arithmetic) (shape : Extent) (cs ss rs vs : List ℕ) (is : IsBlock s shape cs ss rs vs) (m : Sparse) (view : block_of shape cs ss rs vs ≡ m)
    (ct st rt vt : List ℕ) (are : AreColumns ct st rt vt) (some : 0 < length cs) (more : 0 < length ct) (matrix : IsMatrix s (with_entries m (all_entries ct st rt vt))) where
  -- no column is shared
  first_apart : AreTo s shape cs (take (length ss - 0) ss) rs vs m ct st rt vt are 0 0
  unfolding pieces
  first_apart =
      let nothing : get_or st (0 + 0) 0 ≡ 0 = are.first in
      let whole : take (length ss - 0) ss ≡ ss = take_all (length ss - 0) ss (omega arith) in
      rw (whole, append-nil cs, append-nil ss, nothing, append-nil rs, append-nil vs, append-nil m.entries) (is, view)

  -- the first column is shared
  first_shared : (0 < length cs) × (get_or cs (length cs - 1) 0 ≡ get_or ct 0 0) → AreTo s shape cs (take (length ss - 1) ss) rs vs m ct st rt vt are 1 0
  unfolding pieces
  first_shared ends =
      let longer = is.lists.one_more_start some in
      let first = are.first in
      let rises = are.rising 0 more in
      let one = are.one_more_start more in
      let j = get_or ct 0 0 in
      let js = part st rt 0 in
      let ws = part st vt 0 in
      let its : ℕ → List Entry = λ k. piece ct st rt vt k in
      let front = take (length ss - 1) ss in
      let long : length front ≡ length cs = simp length-take (omega (arith, longer)) in
      let count = length-part ct st rt vt are rt 0 refl more in
      let same = same_parts ct st rt vt are 0 more in
      let has : 0 < length js = omega (arith, count, rises) in
      let later = pieces_front its 1 (length ct - 1) (length ct) (omega (arith, more)) in
      let whole : IsMatrix s (with_column m j js ws) =
      matrix_front s m.shape (m.entries ++ its 0) later.0 (subst (λ es. IsMatrix s (record { shape = m.shape; entries = es })) (ap (λ xs. m.entries ++ xs) later.1 ∙ sym (append_assoc m.entries (its 0) later.0)) matrix) in
      let owed = is_column_part s m j js ws same has whole in
      let shapes : m.shape ≡ shape = ap (λ (x : Sparse). x.shape) (sym view) in
      let place : length ss - 1 ≡ length cs = omega (arith, longer) in
      let end_is : get_or ss (length ss - 1) 0 ≡ length rs = ap (λ i. get_or ss i 0) place ∙ is.lists.last in
      let ss_is : ss ≡ front ++ length rs ∷ [] = sym (ap (λ x. front ++ x ∷ []) (sym end_is) ∙ last_of ss (length ss - 1) (omega (arith, longer))) in
      let grown = all_more s shape cs j ends (rw (← shapes) owed.column) front long js ws rs vs m (length rs + length js) same owed.ascending (rw (← shapes) owed.rows) owed.values owed.not_zero owed.after
      (subst (λ xs. IsBlock s shape cs xs rs vs) ss_is is) (ap (λ xs. block_of shape cs xs rs vs) (sym ss_is) ∙ view) refl in
      let all_rows : js ≡ take (get_or st 1 0) rt = ap (λ n. take n rt ++ js) (sym first) ∙ range_join (get_or st 0 0) (get_or st 1 0) rt (omega (arith, rises)) in
      let all_values : ws ≡ take (get_or st 1 0) vt = ap (λ n. take n vt ++ ws) (sym first) ∙ range_join (get_or st 0 0) (get_or st 1 0) vt (omega (arith, rises)) in
      let end : length rs + length js ≡ get_or st 1 0 + length rs = omega (arith, count, first) in
      let one_end : take 1 (drop 1 st) ≡ get_or st 1 0 ∷ [] = take_more (drop 1 st) 0 0 (simp length-drop (omega (arith, one, more))) ∙ ap (λ x. x ∷ []) (get_or-drop 1 st 0 0) in
      let starts_are : front ++ (length rs + length js) ∷ [] ≡ front ++ map (λ e. e + length rs) (take 1 (drop 1 st)) = ap (λ x. front ++ x ∷ []) end ∙ ap (λ xs. front ++ map (λ e. e + length rs) xs) (sym one_end) in
      let columns_are : cs ≡ cs ++ [] = sym (append-nil cs) in
      let B : List ℕ → List ℕ → List ℕ → List ℕ → Type 0 = λ a b c d. IsBlock s shape a b c d × (block_of shape a b c d ≡ with_column m j js ws) in
      subst (λ a. B a (front ++ map (λ e. e + length rs) (take 1 (drop 1 st))) (rs ++ take (get_or st 1 0) rt) (vs ++ take (get_or st 1 0) vt)) columns_are
      (subst (λ b. B cs b (rs ++ take (get_or st 1 0) rt) (vs ++ take (get_or st 1 0) vt)) starts_are
      (subst (λ c. B cs (front ++ (length rs + length js) ∷ []) c (vs ++ take (get_or st 1 0) vt)) (ap (λ xs. rs ++ xs) all_rows)
      (subst (λ d. B cs (front ++ (length rs + length js) ∷ []) (rs ++ js) d) (ap (λ xs. vs ++ xs) all_values) grown)))

  -- the lists with those of the other block behind them
  pub appended : (shared : ℕ) → ((shared ≡ 1) × ((0 < length cs) × (get_or cs (length cs - 1) 0 ≡ get_or ct 0 0))) ⊎ ((shared ≡ 0) × ((0 < length cs) × (get_or cs (length cs - 1) 0 ≡ get_or ct 0 0) → ⊥))
      → (C S R V : List ℕ) → C ≡ cs ++ drop shared ct → S ≡ take (length ss - shared) ss ++ map (λ e. e + length rs) (drop 1 st) → R ≡ rs ++ rt → V ≡ vs ++ vt
      → IsBlock s shape C S R V × (block_of shape C S R V ≡ with_entries m (all_entries ct st rt vt))
  appended shared cases C S R V p q r t =
      let longer = is.lists.one_more_start some in
      ⊎_elim
      (λ (c : (shared ≡ 1) × ((0 < length cs) × (get_or cs (length cs - 1) 0 ≡ get_or ct 0 0))).
      let ends = c.1 in
      let last = ends.1 in
      all_grown s shape cs (take (length ss - 1) ss) rs vs m ct st rt vt are 1 matrix (simp length-take (omega (arith, longer, some)))
      (λ l e. let less : get_or ct 0 0 < get_or ct 1 0 = are.ascending 0 1 0 (omega arith) l in let is' = e.1 in omega (arith, less, is', last))
      (first_shared ends) more more C S R V (p ∙ ap (λ n. cs ++ drop n ct) c.0) (q ∙ ap (λ n. take (length ss - n) ss ++ map (λ e. e + length rs) (drop 1 st)) c.0) r t)
      (λ (c : (shared ≡ 0) × ((0 < length cs) × (get_or cs (length cs - 1) 0 ≡ get_or ct 0 0) → ⊥)).
      all_grown s shape cs (take (length ss - 0) ss) rs vs m ct st rt vt are 0 matrix (simp length-take (omega (arith, longer, some)))
      (λ l. c.1) first_apart (omega arith) more C S R V (p ∙ ap (λ n. cs ++ drop n ct) c.0) (q ∙ ap (λ n. take (length ss - n) ss ++ map (λ e. e + length rs) (drop 1 st)) c.0) r t)
      cases
