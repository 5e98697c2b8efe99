-- The entries of one column, by its rows and values, with rows counted from a top row.
use Rattle.std.proofs.Common.{◌≡◌, ℕ, ◌+◌, ◌<◌, List, [], ◌∷◌, ◌++◌, length, length-take, take, get_or, refl, ap, ◌∙◌, arith}
use Rattle.std.proofs.lemmas.List.{take_more}
use Rattle.cb_dcsc.specs.Compressed.{entries_in}
use Rattle.cb_layout.specs.Segments.{shifted}

-- there are as many as rows
pub length-shifted : (top column : ℕ) (rows values : List ℕ) → length values ≡ length rows → length (shifted top column rows values) ≡ length rows
unfolding entries_in
length-shifted top column [] values e = refl
length-shifted top column (k ∷ rows) [] e = absurd (omega arith)
length-shifted top column (k ∷ rows) (w ∷ values) e = let rest = length-shifted top column rows values (omega arith) in omega arith

-- none of them, and one more
pub shifted_none : (top column : ℕ) (rows values : List ℕ) → shifted top column (take 0 rows) (take 0 values) ≡ []
unfolding entries_in
shifted_none top column rows values = refl

shifted_push : (top column : ℕ) (rows values : List ℕ) (i v : ℕ) → length values ≡ length rows → shifted top column (rows ++ i ∷ []) (values ++ v ∷ []) ≡ shifted top column rows values ++ record { row = top + i; column = column; value = v } ∷ []
unfolding entries_in
shifted_push top column [] [] i v e = refl
shifted_push top column [] (w ∷ values) i v e = absurd (omega arith)
shifted_push top column (k ∷ rows) [] i v e = absurd (omega arith)
shifted_push top column (k ∷ rows) (w ∷ values) i v e = ap (λ es. record { row = top + k; column = column; value = w } ∷ es) (shifted_push top column rows values i v (omega arith))

-- one row and value more of a column make one more entry, with its place in the whole
pub shifted_more : (top column : ℕ) (rows values : List ℕ) (n : ℕ) → length values ≡ length rows → n < length rows
    → shifted top column (take (n + 1) rows) (take (n + 1) values) ≡ shifted top column (take n rows) (take n values) ++ record { row = top + get_or rows n 0; column = column; value = get_or values n 0 } ∷ []
shifted_more top column rows values n e l =
    let same : length (take n values) ≡ length (take n rows) = simp length-take (omega arith) in
    let m : n < length values = omega arith in
    (λ t. shifted top column (take_more rows n 0 l t) (take_more values n 0 m t))
    ∙ shifted_push top column (take n rows) (take n values) (get_or rows n 0) (get_or values n 0) same
