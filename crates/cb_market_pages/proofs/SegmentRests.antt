-- The entries of a segment that are left.
use Rattle.std.proofs.Common.{◌≡◌, ℕ, zero, suc, ◌+◌, ◌<◌, List, [], ◌∷◌, ◌++◌, ◌≤◌, length-append, length-drop, drop, length, get_or, arith, refl, ap, sym, ◌∙◌, add-one}
use Rattle.std.specs.Prelude.{Option, None, Some, IfSome, IfNone}
use Rattle.cb_matrix.specs.declared.Entry.{Entry}
use Rattle.cb_dcsc.specs.Compressed.{entries_in}
use Rattle.cb_layout.specs.Segments.{shifted}

-- none, if no row is left
pub shifted_done : (top column : ℕ) (rows values : List ℕ) → length rows ≡ 0 → shifted top column rows values ≡ []
unfolding entries_in
shifted_done top column [] values e = refl
shifted_done top column (i ∷ is) values e = absurd (omega arith)

shifted_suc : (top column : ℕ) (rows values : List ℕ) (n : ℕ) → length values ≡ length rows → n < length rows → shifted top column (drop n rows) (drop n values) ≡ record { row = top + get_or rows n 0; column = column; value = get_or values n 0 } ∷ shifted top column (drop (suc n) rows) (drop (suc n) values)
unfolding entries_in
shifted_suc top column [] values n e l = absurd (omega arith)
shifted_suc top column (i ∷ is) [] n e l = absurd (omega arith)
shifted_suc top column (i ∷ is) (v ∷ vs) zero e l = refl
shifted_suc top column (i ∷ is) (v ∷ vs) (suc n) e l = shifted_suc top column is vs n (omega arith) (omega arith)

-- the next one, and those after it
pub shifted_next : (top column : ℕ) (rows values : List ℕ) (n : ℕ) → length values ≡ length rows → n < length rows → shifted top column (drop n rows) (drop n values) ≡ record { row = top + get_or rows n 0; column = column; value = get_or values n 0 } ∷ shifted top column (drop (n + 1) rows) (drop (n + 1) values)
shifted_next top column rows values n e l =
    shifted_suc top column rows values n e l
    ∙ ap (λ m. record { row = top + get_or rows n 0; column = column; value = get_or values n 0 } ∷ shifted top column (drop m rows) (drop m values)) (sym (add-one n))

-- how many there are
pub length-shifted : (top column : ℕ) (rows values : List ℕ) → length values ≡ length rows → length (shifted top column rows values) ≡ length rows
unfolding entries_in
length-shifted top column [] values e = refl
length-shifted top column (i ∷ is) [] e = absurd (omega arith)
length-shifted top column (i ∷ is) (v ∷ vs) e = let h = length-shifted top column is vs (omega arith) in omega (arith, h)

-- fewer are left, once some are done
pub shorter : (top column : ℕ) (rows values rows' values' : List ℕ) (n : ℕ) (more : List Entry) → length values ≡ length rows → rows' ≡ drop n rows → values' ≡ drop n values → n ≤ length rows → 0 < n → length (shifted top column rows' values' ++ more) < length (shifted top column rows values ++ more)
shorter top column rows values rows' values' n more e r v l some =
    let a = length-append (shifted top column rows' values') more in
    let b = length-append (shifted top column rows values) more in
    let lr = ap length r in
    let lv = ap length v in
    let dr = length-drop n rows in
    let dv = length-drop n values in
    let c = length-shifted top column rows values e in
    let d = length-shifted top column rows' values' (omega arith) in
    omega arith

-- the same, at a place that is known to be the same, of all that was left
pub shorter_at : (top column : ℕ) (rows values : List ℕ) (top' column' : ℕ) (rows' values' : List ℕ) (n : ℕ) (more all : List Entry) → length values ≡ length rows → top' ≡ top → column' ≡ column → rows' ≡ drop n rows → values' ≡ drop n values → n ≤ length rows → 0 < n → all ≡ shifted top column rows values ++ more → length (shifted top' column' rows' values' ++ more) < length all
shorter_at top column rows values top' column' rows' values' n more all e t c r v l some a =
    rw (t, c, a) (shorter top column rows values rows' values' n more e r v l some)

-- if no segment follows, nothing is left
pub nothing_left : {X : Type 0} (o : Option X) (own old new : List Entry) → own ≡ [] → IfNone o ((old ≡ []) × (new ≡ [])) → IfNone o (own ++ new ≡ [])
nothing_left None own old new e h = rw (e, h.1) refl
nothing_left (Some x) own old new e h = h

-- if one follows, it has the first of what is left
pub next_first : {X : Type 0} (o : Option X) (entries : X → List Entry) (own old new : List Entry) → own ≡ [] → IfSome o (λ x. old ≡ entries x ++ new) → IfSome o (λ x. own ++ old ≡ entries x ++ new)
next_first None entries own old new e h = h
next_first (Some x) entries own old new e h = rw e h
