-- Entries taken over into the known numbers, one after another.
use Rattle.std.proofs.Common.{◌≡◌, ◌≢◌, ℕ, ◌+◌, ◌<◌, ◌≤◌, Bool, true, false, cond, ◌⊎◌, inl, inr, ⊎_elim, List, [], ◌∷◌, ◌++◌, length, take, get_or, subst, sym, refl, ap, ◌∙◌, arith}
use Rattle.std.specs.Prelude.{filter, All, AllPairs, ◌==◌}
use Rattle.std.specs.Ordering.{nat_cmp, is_eq}
use Rattle.std.specs.Cmp.{nat_cmp_is}
use Rattle.std.specs.declared.cmp.Ordering.TheVariants.{Less, Equal, Greater}
use Rattle.std.proofs.lemmas.Bool.{cases_eq, cases_order, cond-true, cond-false, eq-eqb, eqb-true}
use Rattle.std.proofs.lemmas.List.{append-nil, take_all, take_more, get_or_default, get_or-take, length-take}
use Rattle.std.proofs.lemmas.List.Elements.{All-cons, All-nil, All-take, filter_more}
use Rattle.cb_matrix.specs.declared.Entry.{Entry}
use Rattle.cb_matrix.specs.Sparse.{value_at, is_at}
use Rattle.cb_matrix.proofs.Pairs.{All-front, All-last}
use Rattle.cb_matrix.proofs.Places.{NoneAt, is_at-own, is_at-parts, value_at-append_left, value_at-append_right}
use Rattle.std.proofs.lemmas.Bool.{false_from_ne_true}
use Rattle.cb_searches.specs.declared.numbers.Numbers.{Numbers}
use Rattle.cb_searches.specs.Walks.{infinite}
use Rattle.cb_searches.specs.Numbers.{number_at, AreNumbers, is_lower}

-- `now` has what `old` has, and the values of the entries in its place
pub record HasTaken (old now : Numbers) (es : List Entry) : Type 0 where
  pub values : (v : ℕ) → number_at now v ≡ value_at (number_at old v) es v 0
  pub finite : (n : ℕ) → AreNumbers n old → All (λ e. (e.row < n) × (e.value < infinite)) es → AreNumbers n now

-- with no entry taken, a map has what it had
pub taken_none : (old : Numbers) → HasTaken old old []
unfolding value_at
taken_none old = record { values = λ v. refl; finite = λ n h _. h }

-- an entry of another row is not at this one's place in the column
pub other_row : (v : ℕ) (e : Entry) → v ≢ e.row → is_at v 0 e ≡ false
other_row v e n = false_from_ne_true (is_at v 0 e) (λ t. n (is_at-parts e v 0 t).0)

-- two numbers that differ don't test as equal
pub ne-eqb : (a b : ℕ) → a ≢ b → (a == b) ≡ false
ne-eqb a b n = false_from_ne_true (a == b) (λ t. n (eqb-true a b t))

-- two numbers compare as equal and are, or neither
pub eq_cases : (k q : ℕ) → ((is_eq (nat_cmp k q) ≡ true) × (k ≡ q)) ⊎ ((is_eq (nat_cmp k q) ≡ false) × (k ≢ q))
eq_cases k q =
    ⊎_elim
    (λ (e : k ≡ q). inl (ap is_eq (sym (nat_cmp_is k q Equal e)), e))
    (⊎_elim
    (λ (l : k < q). inr (ap is_eq (sym (nat_cmp_is k q Less l)), λ e. omega arith))
    (λ (l : q < k). inr (ap is_eq (sym (nat_cmp_is k q Greater l)), λ e. omega arith)))
    (cases_order k q)

module _ (es : List Entry) (i : ℕ) (d : Entry) (l : i < length es) (rows : AllPairs (λ d e. d.row ≢ e.row) es) (column : All (λ e. e.column ≡ 0) es) (old now next : Numbers) (before : HasTaken old now (take i es)) where
  abbrev e : Entry
  e = get_or es i d

  none_before : NoneAt e.row 0 (take i es)
  none_before k f m =
      let j : k < i = omega (arith, length-take i es) in
      let own : get_or es i d ≡ get_or es i f = get_or_default es i d f l in
      other_row e.row (get_or (take i es) k f) (λ h. rows k i f j l (ap (λ (x : Entry). x.row) (sym (get_or-take i es k f j)) ∙ sym h ∙ ap (λ (x : Entry). x.row) own))

  whole : take (i + 1) es ≡ take i es ++ e ∷ []
  whole = take_more es i d l

  here : is_at e.row 0 e ≡ true
  here = is_at-own e e.row 0 refl (sym (column i d l))

  value_here : (z : ℕ) → value_at z (take (i + 1) es) e.row 0 ≡ e.value
  unfolding value_at
  value_here z = ap (λ (xs : List Entry). value_at z xs e.row 0) whole ∙ value_at-append_right z (take i es) (e ∷ []) e.row 0 none_before ∙ cond-true _ _ _ here

  value_there : (z v : ℕ) → e.row ≢ v → value_at z (take (i + 1) es) v 0 ≡ value_at z (take i es) v 0
  value_there z v n = ap (λ (xs : List Entry). value_at z xs v 0) whole ∙ value_at-append_left z (take i es) (e ∷ []) v 0 (All-cons (λ x. is_at v 0 x ≡ false) e [] (other_row v e (λ h. n (sym h))) (All-nil (λ x. is_at v 0 x ≡ false)))

  -- what is known is of as many vertices as at first, and the next entry's row is one of them
  pub next_inside : (n : ℕ) → AreNumbers n old → All (λ e. (e.row < n) × (e.value < infinite)) es → (m : ℕ) × AreNumbers m now × (e.row < m)
  next_inside n are all = (n, before.finite n are (All-take (λ e. (e.row < n) × (e.value < infinite)) i es all), (all i d l).0)

  -- with the next entry's value put at its row, one more entry is taken
  pub taken_one : ((v : ℕ) → number_at next v ≡ cond (v == e.row) e.value (number_at now v)) → ((n : ℕ) → AreNumbers n now → e.row < n → e.value < infinite → AreNumbers n next) → HasTaken old next (take (i + 1) es)
  taken_one h finite = record {
    values = λ v. ⊎_elim
        (λ (same : v ≡ e.row).
        h v ∙ cond-true _ _ _ (eq-eqb v e.row same) ∙ sym (value_here (number_at old v)) ∙ ap (λ (u : ℕ). value_at (number_at old v) (take (i + 1) es) u 0) (sym same))
        (λ (other : v ≢ e.row).
        h v ∙ cond-false _ _ _ (ne-eqb v e.row other) ∙ before.values v ∙ sym (value_there (number_at old v) v (λ q. other (sym q))))
        (cases_eq v e.row);
    finite = λ n known all.
        let parts : All (λ e. (e.row < n) × (e.value < infinite)) (take i es ++ e ∷ []) = subst (λ (xs : List Entry). All (λ e. (e.row < n) × (e.value < infinite)) xs) whole all in
        let last = All-last (λ e. (e.row < n) × (e.value < infinite)) (take i es) e parts in
        finite n (before.finite n known (All-front (λ e. (e.row < n) × (e.value < infinite)) (take i es) (e ∷ []) parts)) last.0 last.1;
  }

-- one more entry has been looked at
module _ (known : Numbers) (es : List Entry) (i : ℕ) (d : Entry) (l : i < length es) (so_far now : List Entry) (before : so_far ≡ filter (is_lower known) (take i es)) where
  -- an entry that is below what is known is added
  pub lower_kept : is_lower known (get_or es i d) ≡ true → now ≡ so_far ++ get_or es i d ∷ [] → now ≡ filter (is_lower known) (take (i + 1) es)
  lower_kept h e =
      e ∙ ap (λ (xs : List Entry). xs ++ get_or es i d ∷ []) before
      ∙ sym (filter_more (is_lower known) es i d l ∙ ap (λ (b : Bool). filter (is_lower known) (take i es) ++ cond b (get_or es i d ∷ []) []) h)

  -- one that isn't is left out
  pub lower_passed : is_lower known (get_or es i d) ≡ false → now ≡ so_far → now ≡ filter (is_lower known) (take (i + 1) es)
  lower_passed h e =
      e ∙ before
      ∙ sym (filter_more (is_lower known) es i d l ∙ ap (λ (b : Bool). filter (is_lower known) (take i es) ++ cond b (get_or es i d ∷ []) []) h ∙ append-nil (filter (is_lower known) (take i es)))

-- if no entry is left, all are taken
pub all_taken : (old now : Numbers) (es : List Entry) (i : ℕ) → length es ≤ i → HasTaken old now (take i es) → HasTaken old now es
all_taken old now es i l h = subst (λ (xs : List Entry). HasTaken old now xs) (take_all i es l) h
