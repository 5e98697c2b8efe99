-- Entries combined in place: the sums stand in front of the entries that are still to be read.
use Rattle.std.proofs.Common.{◌≡◌, ℕ, suc, zero, ◌+◌, ◌-◌, ◌<◌, ◌≤◌, List, [], ◌∷◌, ◌++◌, length, take, drop, get_or, subst, sym, refl, ap, ◌∙◌, arith}
use Rattle.std.specs.Prelude.{All, AllPairs}
use Rattle.std.proofs.lemmas.List.{get_or_default, get_or-drop, take_all}
use Rattle.std.proofs.lemmas.List.Elements.{All-head}
use Rattle.std.proofs.Math.Seq.{drop-nil}
use Rattle.cb_semirings.specs.Arithmetic.{Arithmetic, IsValue, IsSemiring}
use Rattle.cb_matrix.specs.declared.Entry.{Entry}
use Rattle.cb_matrix.specs.Sparse.{IsNotAfter}
use Rattle.cb_matrix.specs.Combined.{stored, IsCombined}
use Rattle.cb_matrix.proofs.Places.{AllPairs-head}
use Rattle.cb_matrix.proofs.Combine.{IsCombinedSoFar, combined_none, combining_start, combining_end, step_same, step_next, current_value, value_here}

drop_again : {X : Type 0} (m n : ℕ) (xs : List X) → drop (m + n) xs ≡ drop n (drop m xs)
drop_again zero n xs = let e : zero + n ≡ n = omega arith in rw e refl
drop_again (suc m) n [] = let e : suc m + n ≡ suc (m + n) = omega arith in rw e (sym (drop-nil n))
drop_again (suc m) n (x ∷ xs) = let e : suc m + n ≡ suc (m + n) = omega arith in rw e (drop_again m n xs)

-- lists that are one from m on are one from any later place on
pub drop_further : {X : Type 0} (m n : ℕ) (xs ys : List X) → m ≤ n → drop m xs ≡ drop m ys → drop n xs ≡ drop n ys
drop_further m n xs ys l h =
    let e : n ≡ m + (n - m) = omega arith in
    rw e (drop_again m (n - m) xs ∙ ap (drop (n - m)) h ∙ sym (drop_again m (n - m) ys))

-- the next element of lists that are one from m on
pub read_ahead : {X : Type 0} (given now : List X) (m : ℕ) (d : X) → m < length given → drop m now ≡ drop m given → get_or given m (get_or now m d) ≡ get_or now m d
read_ahead given now m d l h =
    let e : m + 0 ≡ m = omega arith in
    let from : (xs : List _) → get_or (drop m xs) 0 d ≡ get_or xs m d = λ xs. get_or-drop m xs 0 d ∙ ap (λ k. get_or xs k d) e in
    get_or_default given m (get_or now m d) d l ∙ sym (from given) ∙ ap (λ xs. get_or xs 0 d) (sym h) ∙ from now

-- What holds after `next` entries of `given` were read: the first `kept` hold sums, and those from `next` on are still as given.
pub record IsCombinedInPlace (s : Arithmetic) (given now : List Entry) (kept next : ℕ) (current : Entry) : Type 0 where
  pub combining : IsCombinedSoFar s (take next given) (take kept now) current (drop next given)
  pub behind : kept < next
  pub ahead : drop next now ≡ drop next given

nothing : {X : Type 0} (xs : List X) → length xs ≡ 0 → xs ≡ []
nothing [] h = refl
nothing (x ∷ xs) h = absurd (omega arith)

module _ (s : Arithmetic) (laws : IsSemiring s) where
  -- no entries
  pub in_place_none : (given : List Entry) → length given ≡ 0 → IsCombined s given []
  in_place_none given h = subst (λ es. IsCombined s es []) (sym (nothing given h)) (combined_none s laws)

  -- the first entry
  pub in_place_start : (given : List Entry) (d : Entry) → 0 < length given → All (λ e. IsValue s e.value) given → AllPairs IsNotAfter given → IsCombinedInPlace s given given 0 1 (get_or given 0 d)
  in_place_start [] d l values order = absurd (omega arith)
  in_place_start (e ∷ es) d l values order = record {
    combining = combining_start s laws e es (All-head (λ (e : Entry). IsValue s e.value) e es values) (AllPairs-head IsNotAfter e es order);
    behind = omega arith;
    ahead = refl;
  }

  module _ (given now : List Entry) (kept next : ℕ) (current : Entry) (values : All (λ e. IsValue s e.value) given) (so_far : IsCombinedInPlace s given now kept next current) where
    -- the last sum is stored, and the combined entries are in front
    pub in_place_end : (end : List Entry) → length given ≤ next → end ≡ take kept now ++ stored s.zero current → IsCombined s given end
    in_place_end end l e =
        subst (λ ks. IsCombined s given ks) (sym e)
        (subst (λ gs. IsCombined s gs (take kept now ++ stored s.zero current)) (take_all next given l)
        (combining_end s laws (take next given) (take kept now) current (drop next given) so_far.combining))

    module _ (d : Entry) (within : next < length given) where
      abbrev entry : Entry
      entry = get_or now next d

      read : get_or given next entry ≡ entry
      read = read_ahead given now next d within so_far.ahead

      -- the entry that is read has a value of the semiring
      pub in_place_value : IsValue s entry.value
      in_place_value = value_here s laws given next entry within read values

      -- the sum at the last place is a value
      pub in_place_current : IsValue s current.value
      in_place_current = current_value s laws given next entry within read values (take kept now) current so_far.combining

      -- one more entry at the place of the last
      pub in_place_same : entry.row ≡ current.row → entry.column ≡ current.column → IsCombinedInPlace s given now kept (next + 1) (record { row = current.row; column = current.column; value = s.add current.value entry.value })
      in_place_same p q = record {
        combining = step_same s laws given next entry within read values (take kept now) current so_far.combining p q;
        behind = let b = so_far.behind in omega arith;
        ahead = drop_further next (next + 1) now given (omega arith) so_far.ahead;
      }

      -- an entry at a later place: the last sum is stored
      pub in_place_next : AllPairs IsNotAfter given → (entry.row ≡ current.row → entry.column ≡ current.column → ⊥) → (now' : List Entry) (kept' : ℕ) → kept' ≤ kept + 1
          → take kept' now' ≡ take kept now ++ stored s.zero current → drop (kept + 1) now' ≡ drop (kept + 1) now → IsCombinedInPlace s given now' kept' (next + 1) entry
      in_place_next order apart now' kept' l front back = record {
        combining = subst (λ ks. IsCombinedSoFar s (take (next + 1) given) ks entry (drop (next + 1) given)) (sym front)
            (step_next s laws given next entry within read values order (take kept now) current so_far.combining apart);
        behind = let b = so_far.behind in omega arith;
        ahead = drop_further (kept + 1) (next + 1) now' now (let b = so_far.behind in omega arith) back ∙ drop_further next (next + 1) now given (omega arith) so_far.ahead;
      }
