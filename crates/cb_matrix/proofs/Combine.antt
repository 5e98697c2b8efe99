-- One entry for each place, from entries in order.
use Rattle.std.proofs.Common.{◌≡◌, ◌≢◌, ℕ, suc, ◌+◌, ◌<◌, true, false, cond, ⊎_elim, List, [], ◌∷◌, ◌++◌, length, take, drop, get_or, subst, drop-cons, add-one, sym, ap, ◌∙◌}
use Rattle.std.specs.Prelude.{All, AllPairs, ◌==◌}
use Rattle.std.proofs.lemmas.Bool.{cases_Bool}
use Rattle.std.proofs.lemmas.List.{append-nil, take_more}
use Rattle.std.proofs.lemmas.List.Elements.{All-head, All-tail, All-cons, All-weaker, All-append, All-nil}
use Rattle.cb_semirings.specs.Arithmetic.{Arithmetic, IsValue, IsSemiring}
use Rattle.cb_matrix.specs.declared.Entry.{Entry}
use Rattle.cb_matrix.specs.Sparse.{Extent, is_at, value_at, IsBefore, IsInside, IsNotAfter}
use Rattle.cb_matrix.specs.Values.{total, values_at}
use Rattle.cb_matrix.specs.Combined.{stored, IsCombined}
use Rattle.cb_matrix.proofs.Places.{is_at-own, is_at-parts}
use Rattle.cb_matrix.proofs.Pairs.{AllPairs-head, AllPairs-cons, AllPairs-nil}
use Rattle.cb_matrix.proofs.Same.{before_trans}
use Rattle.cb_matrix.proofs.Made.{value_at-none, value_at-append_left, value_at-append_right}
use Rattle.cb_matrix.proofs.Totals.{total-nil, total-append, total-one, values_at-values, values_at-append, values_at-here, values_at-elsewhere}
pub use Rattle.cb_matrix.proofs.Pairs.{All-front, All-last, AllPairs-front, AllPairs-last, AllPairs-push, AllPairs-drop}
pub use Rattle.cb_matrix.proofs.Stored.{stored_all, stored_last, value_at-one, none_before, one_none}

-- What holds while `given` has been read: the sums at all places before `current`'s are kept, and `current` has that at its own.
pub record IsCombinedSoFar (s : Arithmetic) (given kept : List Entry) (current : Entry) (rest : List Entry) : Type 0 where
  pub ascending : AllPairs IsBefore (kept ++ current ∷ [])
  pub inside : (shape : Extent) → All (IsInside shape) given → All (IsInside shape) (kept ++ current ∷ [])
  pub values : All (λ e. IsValue s e.value) (kept ++ current ∷ [])
  pub given_values : All (λ e. IsValue s e.value) given
  pub not_zero : All (λ e. e.value ≢ s.zero) kept
  pub sums : (i j : ℕ) → value_at s.zero (kept ++ current ∷ []) i j ≡ total s (values_at given i j)
  pub next : All (IsNotAfter current) rest

stored_pairs' : (z : ℕ) (xs : List Entry) (e : Entry) → AllPairs IsBefore (xs ++ e ∷ []) → AllPairs IsBefore (xs ++ stored z e)
stored_pairs' z xs e h =
    elim (e.value == z) as (λ b. AllPairs IsBefore (xs ++ cond b [] (e ∷ []))) [
      | true ↦ rw append-nil (AllPairs-front IsBefore xs (e ∷ []) h)
      | false ↦ h
    ]

module _ (s : Arithmetic) (laws : IsSemiring s) where
  stored_pairs : (xs : List Entry) (e : Entry) → AllPairs IsBefore (xs ++ e ∷ []) → AllPairs IsBefore (xs ++ stored s.zero e)
  stored_pairs xs e h = stored_pairs' s.zero xs e h

  abbrev Val : Entry → Type 0
  Val e = IsValue s e.value

  -- the sum with one value more, at its place and elsewhere
  total-here : (given : List Entry) (x : Entry) (i j : ℕ) → All Val given → IsValue s x.value → is_at i j x ≡ true → total s (values_at (given ++ x ∷ []) i j) ≡ s.add (total s (values_at given i j)) x.value
  total-here given x i j gv v t =
      ap (total s) (values_at-append given (x ∷ []) i j)
      ∙ total-append s laws (values_at given i j) (values_at (x ∷ []) i j) (values_at-values s laws given i j gv) (values_at-values s laws (x ∷ []) i j (All-cons Val x [] v (All-nil Val)))
      ∙ ap (s.add (total s (values_at given i j))) (ap (total s) (values_at-here x i j t) ∙ total-one s laws x.value v)

  total-elsewhere : (given : List Entry) (x : Entry) (i j : ℕ) → is_at i j x ≡ false → total s (values_at (given ++ x ∷ []) i j) ≡ total s (values_at given i j)
  total-elsewhere given x i j f =
      ap (total s) (values_at-append given (x ∷ []) i j ∙ ap (λ ys. values_at given i j ++ ys) (values_at-elsewhere x i j f) ∙ append-nil (values_at given i j))

  -- the first entry: nothing is kept, and its value is the sum at its place
  pub combining_start : (e : Entry) (rest : List Entry) → IsValue s e.value → All (IsNotAfter e) rest → IsCombinedSoFar s (e ∷ []) [] e rest
  combining_start e rest v next = record {
    ascending = AllPairs-cons IsBefore e [] (All-nil (IsBefore e)) (AllPairs-nil IsBefore);
    inside = λ shape h. h;
    values = All-cons Val e [] v (All-nil Val);
    given_values = All-cons Val e [] v (All-nil Val);
    not_zero = All-nil (λ e. e.value ≢ s.zero);
    sums = λ i j. ⊎_elim
        (λ (t : is_at i j e ≡ true). value_at-one s.zero e i j t ∙ sym (ap (total s) (values_at-here e i j t) ∙ total-one s laws e.value v))
        (λ (f : is_at i j e ≡ false). value_at-none s.zero (e ∷ []) i j (one_none e i j f) ∙ sym (ap (total s) (values_at-elsewhere e i j f) ∙ total-nil s laws))
        (cases_Bool (is_at i j e));
    next = next;
  }

  -- one more at the same place
  pub combining_same : (given kept : List Entry) (c x : Entry) (rest : List Entry) → IsCombinedSoFar s given kept c (x ∷ rest) → x.row ≡ c.row → x.column ≡ c.column → IsValue s x.value → IsCombinedSoFar s (given ++ x ∷ []) kept (record { row = c.row; column = c.column; value = s.add c.value x.value }) rest
  combining_same given kept c x rest h p q v =
      let d : Entry = record { row = c.row; column = c.column; value = s.add c.value x.value } in
      let front = AllPairs-last IsBefore kept c h.ascending in
      let cv : IsValue s c.value = All-last Val kept c h.values in
      record {
        ascending = AllPairs-push IsBefore kept d (AllPairs-front IsBefore kept (c ∷ []) h.ascending) front;
        inside = λ shape all.
            let old = h.inside shape (All-front (IsInside shape) given (x ∷ []) all) in
            All-append (IsInside shape) kept (d ∷ []) (All-front (IsInside shape) kept (c ∷ []) old) (All-cons (IsInside shape) d [] (All-last (IsInside shape) kept c old) (All-nil (IsInside shape)));
        values = All-append Val kept (d ∷ []) (All-front Val kept (c ∷ []) h.values) (All-cons Val d [] (laws.add_value c.value x.value cv v) (All-nil Val));
        given_values = All-append Val given (x ∷ []) h.given_values (All-cons Val x [] v (All-nil Val));
        not_zero = h.not_zero;
        sums = λ i j. ⊎_elim
            (λ (t : is_at i j c ≡ true).
            let r = is_at-parts c i j t in
            let none = none_before kept c i j r.0 r.1 front in
            let here : is_at i j x ≡ true = is_at-own x i j (r.0 ∙ sym p) (r.1 ∙ sym q) in
            value_at-append_right s.zero kept (d ∷ []) i j none ∙ value_at-one s.zero d i j t
            ∙ ap (λ n. s.add n x.value) (sym (value_at-append_right s.zero kept (c ∷ []) i j none ∙ value_at-one s.zero c i j t) ∙ h.sums i j)
            ∙ sym (total-here given x i j h.given_values v here))
            (λ (f : is_at i j c ≡ false).
            let away : is_at i j x ≡ false = rw (p, q) f in
            value_at-append_left s.zero kept (d ∷ []) i j (one_none d i j f)
            ∙ sym (value_at-append_left s.zero kept (c ∷ []) i j (one_none c i j f)) ∙ h.sums i j
            ∙ sym (total-elsewhere given x i j away))
            (cases_Bool (is_at i j c));
        next = All-tail (IsNotAfter c) x rest h.next;
      }

  -- one at a later place
  pub combining_next : (given kept : List Entry) (c x : Entry) (rest : List Entry) → IsCombinedSoFar s given kept c (x ∷ rest) → (x.row ≡ c.row → x.column ≡ c.column → ⊥) → IsValue s x.value → All (IsNotAfter x) rest → IsCombinedSoFar s (given ++ x ∷ []) (kept ++ stored s.zero c) x rest
  combining_next given kept c x rest h n v next =
      let later : IsBefore c x = ⊎_elim (λ b. b) (λ e. absurd (n (sym e.0) (sym e.1))) (All-head (IsNotAfter c) x rest h.next) in
      let front = AllPairs-last IsBefore kept c h.ascending in
      let kept_before : All (λ d. IsBefore d x) (kept ++ stored s.zero c) =
      All-append (λ d. IsBefore d x) kept (stored s.zero c) (All-weaker (λ d. IsBefore d c) (λ d. IsBefore d x) (λ d b. before_trans d c x b later) kept front) (stored_all s.zero (λ d. IsBefore d x) c (λ _. later)) in
      let new_pairs : AllPairs IsBefore (kept ++ stored s.zero c) = stored_pairs kept c h.ascending in
      record {
        ascending = AllPairs-push IsBefore (kept ++ stored s.zero c) x new_pairs kept_before;
        inside = λ shape all.
            let old = h.inside shape (All-front (IsInside shape) given (x ∷ []) all) in
            All-append (IsInside shape) (kept ++ stored s.zero c) (x ∷ []) (All-append (IsInside shape) kept (stored s.zero c) (All-front (IsInside shape) kept (c ∷ []) old) (stored_all s.zero (IsInside shape) c (λ _. All-last (IsInside shape) kept c old)))
            (All-cons (IsInside shape) x [] (All-last (IsInside shape) given x all) (All-nil (IsInside shape)));
        values = All-append Val (kept ++ stored s.zero c) (x ∷ []) (All-append Val kept (stored s.zero c) (All-front Val kept (c ∷ []) h.values) (stored_all s.zero Val c (λ _. All-last Val kept c h.values))) (All-cons Val x [] v (All-nil Val));
        given_values = All-append Val given (x ∷ []) h.given_values (All-cons Val x [] v (All-nil Val));
        not_zero = All-append (λ e. e.value ≢ s.zero) kept (stored s.zero c) h.not_zero (stored_all s.zero (λ e. e.value ≢ s.zero) c (λ ne. ne));
        sums = λ i j. ⊎_elim
            (λ (t : is_at i j x ≡ true).
            let r = is_at-parts x i j t in
            let none = none_before (kept ++ stored s.zero c) x i j r.0 r.1 kept_before in
            let old_none = none_before (kept ++ c ∷ []) x i j r.0 r.1 (All-append (λ d. IsBefore d x) kept (c ∷ []) (All-weaker (λ d. IsBefore d c) (λ d. IsBefore d x) (λ d b. before_trans d c x b later) kept front) (All-cons (λ d. IsBefore d x) c [] later (All-nil (λ d. IsBefore d x)))) in
            value_at-append_right s.zero (kept ++ stored s.zero c) (x ∷ []) i j none ∙ value_at-one s.zero x i j t
            ∙ sym (laws.zero_add x.value v)
            ∙ ap (λ n. s.add n x.value) (sym (value_at-none s.zero (kept ++ c ∷ []) i j old_none) ∙ h.sums i j)
            ∙ sym (total-here given x i j h.given_values v t))
            (λ (f : is_at i j x ≡ false).
            value_at-append_left s.zero (kept ++ stored s.zero c) (x ∷ []) i j (one_none x i j f)
            ∙ stored_last s.zero kept c i j front ∙ h.sums i j
            ∙ sym (total-elsewhere given x i j f))
            (cases_Bool (is_at i j x));
        next = next;
      }

  -- when all are read, the last sum is kept too
  pub combining_end : (given kept : List Entry) (c : Entry) (rest : List Entry) → IsCombinedSoFar s given kept c rest → IsCombined s given (kept ++ stored s.zero c)
  combining_end given kept c rest h = record {
    ascending = stored_pairs kept c h.ascending;
    inside = λ shape all.
        let old = h.inside shape all in
        All-append (IsInside shape) kept (stored s.zero c) (All-front (IsInside shape) kept (c ∷ []) old) (stored_all s.zero (IsInside shape) c (λ _. All-last (IsInside shape) kept c old));
    values = All-append Val kept (stored s.zero c) (All-front Val kept (c ∷ []) h.values) (stored_all s.zero Val c (λ _. All-last Val kept c h.values));
    not_zero = All-append (λ e. e.value ≢ s.zero) kept (stored s.zero c) h.not_zero (stored_all s.zero (λ e. e.value ≢ s.zero) c (λ ne. ne));
    sums = λ i j. stored_last s.zero kept c i j (AllPairs-last IsBefore kept c h.ascending) ∙ h.sums i j;
  }

  -- of no entries nothing is kept
  pub combined_none : IsCombined s [] []
  combined_none = record {
    ascending = AllPairs-nil IsBefore;
    inside = λ shape all. all;
    values = All-nil Val;
    not_zero = All-nil (λ e. e.value ≢ s.zero);
    sums = λ i j. value_at-none s.zero [] i j (All-nil (λ e. is_at i j e ≡ false)) ∙ sym (total-nil s laws);
  }

  module _ (es : List Entry) (m : ℕ) (x : Entry) (within : m < length es) (read : get_or es m x ≡ x) (all_values : All Val es) where
    -- the entry that is read has a value of the semiring
    pub value_here : IsValue s x.value
    value_here = let P : Entry → Type 0 = Val in subst P read (all_values m x within)

    taken : take m es ++ x ∷ [] ≡ take (m + 1) es
    taken = sym (take_more es m x within ∙ ap (λ y. take m es ++ y ∷ []) read)

    dropped : drop m es ≡ x ∷ drop (m + 1) es
    dropped = rw add-one (drop-cons es m x within ∙ ap (λ y. y ∷ drop (suc m) es) read)

    -- entry m of a list is read, at the place of the last
    pub step_same : (kept : List Entry) (c : Entry) → IsCombinedSoFar s (take m es) kept c (drop m es) → x.row ≡ c.row → x.column ≡ c.column → IsCombinedSoFar s (take (m + 1) es) kept (record { row = c.row; column = c.column; value = s.add c.value x.value }) (drop (m + 1) es)
    step_same kept c h p q =
        let h' : IsCombinedSoFar s (take m es) kept c (x ∷ drop (m + 1) es) = subst (λ r. IsCombinedSoFar s (take m es) kept c r) dropped h in
        subst (λ given. IsCombinedSoFar s given kept (record { row = c.row; column = c.column; value = s.add c.value x.value }) (drop (m + 1) es)) taken (combining_same (take m es) kept c x (drop (m + 1) es) h' p q value_here)

    -- entry m of a list is read, at a later place
    pub step_next : AllPairs IsNotAfter es → (kept : List Entry) (c : Entry) → IsCombinedSoFar s (take m es) kept c (drop m es) → (x.row ≡ c.row → x.column ≡ c.column → ⊥) → IsCombinedSoFar s (take (m + 1) es) (kept ++ stored s.zero c) x (drop (m + 1) es)
    step_next order kept c h n =
        let h' : IsCombinedSoFar s (take m es) kept c (x ∷ drop (m + 1) es) = subst (λ r. IsCombinedSoFar s (take m es) kept c r) dropped h in
        let tail : AllPairs IsNotAfter (x ∷ drop (m + 1) es) = subst (λ r. AllPairs IsNotAfter r) dropped (AllPairs-drop IsNotAfter m es order) in
        subst (λ given. IsCombinedSoFar s given (kept ++ stored s.zero c) x (drop (m + 1) es)) taken
        (combining_next (take m es) kept c x (drop (m + 1) es) h' n value_here (AllPairs-head IsNotAfter x (drop (m + 1) es) tail))

    -- the sum at the last place is a value
    pub current_value : (kept : List Entry) (c : Entry) → IsCombinedSoFar s (take m es) kept c (drop m es) → IsValue s c.value
    current_value kept c h = All-last Val kept c h.values
