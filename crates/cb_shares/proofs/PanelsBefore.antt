-- Entries whose columns are before those of others, panel by panel.
use Rattle.std.proofs.Common.{ℕ, ◌<◌, List, [], ◌∷◌, ◌++◌, get_or}
use Rattle.std.specs.Prelude.{◌↔◌, All}
use Rattle.std.proofs.lemmas.List.Elements.{All-nil, All-cons, All-head, All-tail, All-append, All-weaker}
use Rattle.cb_matrix.specs.declared.Entry.{Entry}
use Rattle.cb_matrix.specs.Sparse.{Sparse}
use Rattle.cb_matrix.proofs.Pairs.{All-front}
use Rattle.cb_dcsc.specs.Columns.{columns_with_entries}
use Rattle.cb_dcsc.proofs.NumbersOfColumns.{columns_all, entries_all}
use Rattle.cb_dcsc.proofs.Pushed.{All-back}
use Rattle.cb_layout.specs.Panels.{entries_of_panels}
use Rattle.cb_shares.specs.Shares.{AreBefore}

-- what holds of the columns of entries holds of those of the first and of the others
module _ (P : ℕ → Type 0) (xs ys : List Entry) where
  pub columns_first : All P (columns_with_entries (xs ++ ys)) → All P (columns_with_entries xs)
  columns_first h = columns_all P xs (All-front (λ (e : Entry). P e.column) xs ys (entries_all P (xs ++ ys) h))

  pub columns_rest : All P (columns_with_entries (xs ++ ys)) → All P (columns_with_entries ys)
  columns_rest h = columns_all P ys (All-back (λ (e : Entry). P e.column) xs ys (entries_all P (xs ++ ys) h))

  pub columns_both : All P (columns_with_entries xs) → All P (columns_with_entries ys) → All P (columns_with_entries (xs ++ ys))
  columns_both h k = columns_all P (xs ++ ys) (All-append (λ (e : Entry). P e.column) xs ys (entries_all P xs h) (entries_all P ys k))

-- ---- entries before those of panels
module _ (es : List Entry) where
  before_one : (xs ys : List Entry) → AreBefore es (xs ++ ys) → AreBefore es xs × AreBefore es ys
  before_one xs ys h = (
    All-weaker (λ c. All (λ d. c < d) (columns_with_entries (xs ++ ys))) (λ c. All (λ d. c < d) (columns_with_entries xs)) (λ c k. columns_first (λ d. c < d) xs ys k) (columns_with_entries es) h,
    All-weaker (λ c. All (λ d. c < d) (columns_with_entries (xs ++ ys))) (λ c. All (λ d. c < d) (columns_with_entries ys)) (λ c k. columns_rest (λ d. c < d) xs ys k) (columns_with_entries es) h,
  )

  before_both : (xs ys : List Entry) → AreBefore es xs → AreBefore es ys → AreBefore es (xs ++ ys)
  before_both xs ys h k i d l = columns_both (λ c. get_or (columns_with_entries es) i d < c) xs ys (h i d l) (k i d l)

  pub before_panels : (ps : List Sparse) → AreBefore es (entries_of_panels ps) ↔ All (λ (p : Sparse). AreBefore es p.entries) ps
  before_panels [] = ((λ h. All-nil (λ (p : Sparse). AreBefore es p.entries)), (λ h i d l. columns_all (λ c. get_or (columns_with_entries es) i d < c) [] (All-nil (λ (e : Entry). get_or (columns_with_entries es) i d < e.column))))
  before_panels (p ∷ ps) = (
    (λ h. let both = before_one p.entries (entries_of_panels ps) h in All-cons (λ (p : Sparse). AreBefore es p.entries) p ps both.0 ((before_panels ps).0 both.1)),
    (λ h. before_both p.entries (entries_of_panels ps) (All-head (λ (p : Sparse). AreBefore es p.entries) p ps h) ((before_panels ps).1 (All-tail (λ (p : Sparse). AreBefore es p.entries) p ps h))),
  )

-- ---- entries of panels before others
module _ (es : List Entry) where
  abbrev Before : ℕ → Type 0
  Before c = All (λ d. c < d) (columns_with_entries es)

  pub panels_before : (ps : List Sparse) → AreBefore (entries_of_panels ps) es ↔ All (λ (p : Sparse). AreBefore p.entries es) ps
  panels_before [] = ((λ h. All-nil (λ (p : Sparse). AreBefore p.entries es)), (λ h. columns_all Before [] (All-nil (λ (e : Entry). Before e.column))))
  panels_before (p ∷ ps) = (
    (λ h. All-cons (λ (p : Sparse). AreBefore p.entries es) p ps (columns_first Before p.entries (entries_of_panels ps) h) ((panels_before ps).0 (columns_rest Before p.entries (entries_of_panels ps) h))),
    (λ h. columns_both Before p.entries (entries_of_panels ps) (All-head (λ (p : Sparse). AreBefore p.entries es) p ps h) ((panels_before ps).1 (All-tail (λ (p : Sparse). AreBefore p.entries es) p ps h))),
  )
