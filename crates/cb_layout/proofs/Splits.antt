-- A list of which a front is taken by one test, and the rest by another.
use Rattle.std.proofs.Common.{◌≡◌, Bool, true, false, cond, List, [], ◌∷◌, ◌++◌, filter, refl, sym, ap, ⊎_elim, ◌∙◌}
use Rattle.std.specs.Prelude.{All, AllPairs, ◌||◌}
use Rattle.std.proofs.lemmas.Bool.{cases_Bool}
use Rattle.std.proofs.lemmas.List.Elements.{All-head, All-tail, All-weaker}
use Rattle.cb_matrix.specs.declared.Entry.{Entry}
use Rattle.cb_matrix.proofs.Pairs.{AllPairs-head, AllPairs-tail}

-- a test that no element passes takes none
pub filter_none : (p : Entry → Bool) (es : List Entry) → All (λ e. p e ≡ false) es → filter p es ≡ []
filter_none p [] h = refl
filter_none p (e ∷ es) h = (λ i. cond (All-head (λ e. p e ≡ false) e es h i) (e ∷ filter p es) (filter p es)) ∙ filter_none p es (All-tail (λ e. p e ≡ false) e es h)

-- a test that each element passes takes all
pub filter_all : (p : Entry → Bool) (es : List Entry) → All (λ e. p e ≡ true) es → filter p es ≡ es
filter_all p [] h = refl
filter_all p (e ∷ es) h = (λ i. cond (All-head (λ e. p e ≡ true) e es h i) (e ∷ filter p es) (filter p es)) ∙ ap (λ xs. e ∷ xs) (filter_all p es (All-tail (λ e. p e ≡ true) e es h))

-- tests that agree on each element take the same
pub filter_same : (p q : Entry → Bool) (es : List Entry) → All (λ e. p e ≡ q e) es → filter p es ≡ filter q es
filter_same p q [] h = refl
filter_same p q (e ∷ es) h = λ i. cond (All-head (λ e. p e ≡ q e) e es h i) (e ∷ filter_same p q es (All-tail (λ e. p e ≡ q e) e es h) i) (filter_same p q es (All-tail (λ e. p e ≡ q e) e es h) i)

-- what one test takes, and after it what another takes, if nothing that the second takes is before what the first does
pub filter_split : (p d q : Entry → Bool) (es : List Entry) → All (λ e. p e ≡ (d e || q e)) es → All (λ e. q e ≡ true → d e ≡ false) es → AllPairs (λ e f. q e ≡ true → d f ≡ false) es → filter p es ≡ filter d es ++ filter q es
filter_split p d q [] h k m = refl
filter_split p d q (e ∷ es) h k m =
    let rest = filter_split p d q es (All-tail (λ e. p e ≡ (d e || q e)) e es h) (All-tail (λ e. q e ≡ true → d e ≡ false) e es k) (AllPairs-tail (λ e f. q e ≡ true → d f ≡ false) e es m) in
    let either : p e ≡ (d e || q e) = All-head (λ e. p e ≡ (d e || q e)) e es h in
    ⊎_elim
    (λ (t : q e ≡ true).
    let f : d e ≡ false = All-head (λ e. q e ≡ true → d e ≡ false) e es k t in
    let a : p e ≡ true = either ∙ (λ i. f i || t i) in
    let none : filter d es ≡ [] = filter_none d es (All-weaker (λ g. q e ≡ true → d g ≡ false) (λ g. d g ≡ false) (λ g l. l t) es (AllPairs-head (λ e f. q e ≡ true → d f ≡ false) e es m)) in
    (λ i. cond (a i) (e ∷ filter p es) (filter p es))
    ∙ ap (λ xs. e ∷ xs) (rest ∙ ap (λ xs. xs ++ filter q es) none)
    ∙ sym (λ i. cond (f i) (e ∷ filter d es) (none i) ++ cond (t i) (e ∷ filter q es) (filter q es)))
    (λ (n : q e ≡ false).
    ⊎_elim
    (λ (t : d e ≡ true).
    let a : p e ≡ true = either ∙ (λ i. t i || n i) in
    (λ i. cond (a i) (e ∷ filter p es) (filter p es))
    ∙ ap (λ xs. e ∷ xs) rest
    ∙ sym (λ i. cond (t i) (e ∷ filter d es) (filter d es) ++ cond (n i) (e ∷ filter q es) (filter q es)))
    (λ (f : d e ≡ false).
    let a : p e ≡ false = either ∙ (λ i. f i || n i) in
    (λ i. cond (a i) (e ∷ filter p es) (filter p es))
    ∙ rest
    ∙ sym (λ i. cond (f i) (e ∷ filter d es) (filter d es) ++ cond (n i) (e ∷ filter q es) (filter q es)))
    (cases_Bool (d e)))
    (cases_Bool (q e))
