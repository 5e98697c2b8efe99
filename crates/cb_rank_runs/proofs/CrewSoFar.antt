-- The loop that pairs ranks with their desks.
use Rattle.std.proofs.Common.{◌≡◌, ℕ, zero, suc, ◌+◌, ◌<◌, ◌≤◌, List, [], ◌∷◌, ◌++◌, length, map, refl, sym, ◌∙◌, ap, subst, arith, length-append, append_assoc, append-nil, ⊎_elim}
use Rattle.std.specs.Prelude.{get_or, drop, Result, Ok, Err, IfOk}
use Rattle.std.proofs.lemmas.Bool.{cases_lt}
use Rattle.std.proofs.lemmas.List.{get_or_append_left}
use Rattle.std.proofs.Math.Seq.{get_or-append_seam}
use Rattle.cb_plan.specs.declared.stores.Slot.{Slot}
use Rattle.cb_matrix.specs.Sparse.{Sparse}
use Rattle.cb_plan.specs.Plans.{CheckedView}
use Rattle.cb_rank.specs.Ranks.{new_rank}
use Rattle.cb_rank_runs.specs.Crews.{Member, AreNewRanks}

-- the first element left once k are dropped, and the rest
pub drop_head : {X : Type 0} (xs : List X) (k : ℕ) (y d : X) (ys : List X) → drop k xs ≡ y ∷ ys → (get_or xs k d ≡ y) × (drop (k + 1) xs ≡ ys)
drop_head [] zero y d ys e = cc
drop_head [] (suc k) y d ys e = cc
drop_head (x ∷ xs) zero y d ys e = (cc, cc)
drop_head (x ∷ xs) (suc k) y d ys e =
    let n : suc k + 1 ≡ suc (k + 1) = omega arith in
    let it = drop_head xs k y d ys e in
    (it.0, rw n it.1)

-- new ranks, and the next one
pub started_more : (p : CheckedView) (first : List (List (Slot Sparse))) (crew : List Member) (x : Member)
    → AreNewRanks p first crew → x.0 ≡ new_rank p (length crew) (get_or first (length crew) []) → AreNewRanks p first (crew ++ x ∷ [])
started_more p first crew x h e k d below =
    let under : k < length crew + 1 = omega (arith, length-append crew (x ∷ [])) in
    ⊎_elim
    (λ (before : k < length crew). rw (get_or_append_left crew (x ∷ []) d k before) (h k d before))
    (λ (past : length crew ≤ k).
    let at_end : length crew ≡ k = omega arith in
    subst (λ m. (get_or (crew ++ x ∷ []) m d).0 ≡ new_rank p m (get_or first m [])) at_end (rw (get_or-append_seam crew x [] d) e))
    (cases_lt k (length crew))

-- what two facts of a result give, if it is Ok
pub ok_both : {A E : Type 0} (P Q R : A → Type 0) (r : Result A E) → ((x : A) → P x → Q x → R x) → IfOk r P → IfOk r Q → IfOk r R
ok_both P Q R (Ok x) f p q = f x p q
ok_both P Q R (Err e) f p q = tt

-- if nothing is left, what is done is all
pub nothing_left : {X : Type 0} (done rest all : List X) → length rest ≡ 0 → done ++ rest ≡ all → done ≡ all
nothing_left done [] all none e = sym (append-nil done) ∙ e
nothing_left done (x ∷ xs) all none e = absurd (omega arith)

-- the images of a list with one more element, followed by the rest
pub images_grow : {X Y : Type 0} (f : X → Y) (xs : List X) (x : X) (rest : List Y) → map f (xs ++ x ∷ []) ++ rest ≡ map f xs ++ (f x ∷ rest)
images_grow f [] x rest = refl
images_grow f (z ∷ zs) x rest = ap (λ ys. f z ∷ ys) (images_grow f zs x rest)

-- a list of images takes one more, of the first element that was left
pub images_taken : {X Y : Type 0} (f : X → Y) (done new : List Y) (y : Y) (x : X) (rest left : List X) (all : List Y)
    → new ≡ done ++ y ∷ [] → y ≡ f x → left ≡ x ∷ rest → done ++ map f left ≡ all → new ++ map f rest ≡ all
images_taken f done new y x rest left all grown is next so_far =
    ap (λ zs. zs ++ map f rest) grown ∙ append_assoc done (y ∷ []) (map f rest) ∙ ap (λ z. done ++ (z ∷ map f rest)) is ∙ ap (λ zs. done ++ map f zs) (sym next) ∙ so_far

-- a list takes one more element, whose image is the first that was left
pub images_go_on : {X Y : Type 0} (f : X → Y) (xs new : List X) (x : X) (y : Y) (rest left all : List Y)
    → new ≡ xs ++ x ∷ [] → f x ≡ y → left ≡ y ∷ rest → map f xs ++ left ≡ all → map f new ++ rest ≡ all
images_go_on f xs new x y rest left all grown is next so_far =
    ap (λ zs. map f zs ++ rest) grown ∙ images_grow f xs x rest ∙ ap (λ z. map f xs ++ (z ∷ rest)) is ∙ ap (λ zs. map f xs ++ zs) (sym next) ∙ so_far

-- no image was taken yet
pub none_taken : {X Y : Type 0} (f : X → Y) (done : List Y) (left all : List X) → done ≡ [] → left ≡ all → done ++ map f left ≡ map f all
none_taken f done left all none is = ap (λ ys. ys ++ map f left) none ∙ ap (λ xs. map f xs) is

-- if no element is left, all images were taken
pub all_taken : {X Y : Type 0} (f : X → Y) (done : List Y) (left : List X) (all : List Y) → length left ≡ 0 → done ++ map f left ≡ all → done ≡ all
all_taken f done [] all none e = sym (append-nil done) ∙ e
all_taken f done (x ∷ xs) all none e = absurd (omega arith)

-- one place is filled, and one element fewer is left
pub room_left : {X : Type 0} (count more capacity same : ℕ) (x : X) (left rest : List X) → more ≡ count + 1 → same ≡ capacity → left ≡ x ∷ rest → count + length left ≤ capacity → more + length rest ≤ same
room_left count more capacity same x left rest longer kept next so_far =
    let fewer : length left ≡ length rest + 1 = omega (arith, ap length next) in
    omega arith

-- one element more is done, and one fewer is left
pub count_left : {X : Type 0} (count more all : ℕ) (x : X) (left rest : List X) → more ≡ count + 1 → left ≡ x ∷ rest → count + length left ≡ all → more + length rest ≡ all
count_left count more all x left rest longer next so_far =
    let fewer : length left ≡ length rest + 1 = omega (arith, ap length next) in
    omega arith

-- two lists with as many elements, without the first of each
pub same_left : {X Y : Type 0} (x : X) (y : Y) (left rest : List X) (others more : List Y) → left ≡ x ∷ rest → others ≡ y ∷ more → length left ≡ length others → length rest ≡ length more
same_left x y left rest others more next other same =
    let fewer : length left ≡ length rest + 1 = omega (arith, ap length next) in
    let fewer_others : length others ≡ length more + 1 = omega (arith, ap length other) in
    omega arith

-- there is as much room as before
pub room_stays : (wanted capacity same : ℕ) → same ≡ capacity → wanted ≤ capacity → wanted ≤ same
room_stays wanted capacity same kept fits = omega arith
