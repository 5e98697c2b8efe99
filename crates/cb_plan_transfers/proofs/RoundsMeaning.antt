-- What an exchange in rounds does, of some ranks, and of those of each row or column of a grid.
use Rattle.std.proofs.Common.{◌≡◌, ◌≢◌, ℕ, ◌+◌, ◌-◌, ◌*◌, ◌%◌, ◌<◌, ◌≤◌, ◌⊎◌, inl, inr, ⊎_elim, Bool, true, false, List, [], ◌∷◌, map, length, refl, sym, ap, ◌∙◌, arith}
use Rattle.std.specs.Prelude.{◌==◌, ◌&&◌, flat_map}
use Rattle.std.specs.List.{range_with_len}
use Rattle.std.proofs.lemmas.Bool.{cases_eq, cases_lt}
use Rattle.std.proofs.lemmas.List.Concat.{flat_map_single}
use Rattle.std.proofs.lemmas.List.Folds.{list_any_at}
use Rattle.std.proofs.lemmas.List.FromFn.{length-map-range_with_len, get_or-map-range_with_len}
use Rattle.std.proofs.Math.Nat.{mod-eq_of_lt, add-mod_left}
use Rattle.cb_letters.specs.declared.Tag.{Tag}
use Rattle.cb_plan.specs.declared.acts.Act.{Act}
use Rattle.cb_plan.specs.Meaning.{Algebra, State, meaning}
use Rattle.cb_plan.proofs.Effects.{split}
use Rattle.cb_plan_parts.specs.Collectives.{is_member, AreDistinct, member}
use Rattle.cb_plan_parts.proofs.Grid.{in_row, in_column, row_distinct, column_distinct}
use Rattle.cb_plan_parts.proofs.MemberPlaces.{same_member}
use Rattle.cb_plan_parts.proofs.SendMeaning.{act_sent}
use Rattle.cb_plan_operations.proofs.RankPrograms.{each_skips, each_sets}
use Rattle.cb_plan_operations.proofs.VectorSteps.{yes, no}
use Rattle.cb_plan_transfers.specs.Rounds.{ahead, sent_ahead, round, rounds, row_exchanges, column_exchanges}

-- ---- places ahead of a place
-- without a division
ahead_is : (n d s : ℕ) → d < n → s < n → ((s + d < n) × (ahead n d s ≡ s + d)) ⊎ ((n ≤ s + d) × (ahead n d s + n ≡ s + d))
ahead_is n d s l m =
    ⊎_elim
    (λ (k : s + d < n). inl (k, mod-eq_of_lt k))
    (λ (k : n ≤ s + d).
    let e : n + (s + d - n) ≡ s + d = omega arith in
    let b : s + d - n < n = omega arith in
    let f : ahead n d s ≡ s + d - n = ap (λ x. x % n) (sym e) ∙ add-mod_left n (s + d - n) ∙ mod-eq_of_lt b in
    inr (k, omega arith))
    (cases_lt (s + d) n)

-- each place is so far ahead of another
pub distance_to : (n s t : ℕ) → s < n → t < n → (d : ℕ) × (d < n) × (ahead n d s ≡ t)
distance_to n s t l m =
    ⊎_elim
    (λ (k : t < s).
    let d = t + n - s in
    let b : d < n = omega arith in
    (d, b, ⊎_elim (λ (h : (s + d < n) × (ahead n d s ≡ s + d)). absurd (let x = h.0 in omega arith)) (λ (h : (n ≤ s + d) × (ahead n d s + n ≡ s + d)). let x = h.1 in omega arith) (ahead_is n d s b l)))
    (λ (k : s ≤ t).
    let d = t - s in
    let b : d < n = omega arith in
    (d, b, ⊎_elim (λ (h : (s + d < n) × (ahead n d s ≡ s + d)). let x = h.1 in omega arith) (λ (h : (n ≤ s + d) × (ahead n d s + n ≡ s + d)). absurd (let x = h.0 in omega arith)) (ahead_is n d s b l)))
    (cases_lt t s)

-- at one distance alone
same_distance : (n s c d : ℕ) → s < n → c < n → d < n → ahead n c s ≡ ahead n d s → c ≡ d
same_distance n s c d l m o e =
    ⊎_elim
    (λ (h : (s + c < n) × (ahead n c s ≡ s + c)). ⊎_elim
    (λ (k : (s + d < n) × (ahead n d s ≡ s + d)). let x = h.1 in let y = k.1 in omega arith)
    (λ (k : (n ≤ s + d) × (ahead n d s + n ≡ s + d)). let x = h.1 in let y = k.1 in omega arith)
    (ahead_is n d s o l))
    (λ (h : (n ≤ s + c) × (ahead n c s + n ≡ s + c)). ⊎_elim
    (λ (k : (s + d < n) × (ahead n d s ≡ s + d)). let x = h.1 in let y = k.1 in omega arith)
    (λ (k : (n ≤ s + d) × (ahead n d s + n ≡ s + d)). let x = h.1 in let y = k.1 in omega arith)
    (ahead_is n d s o l))
    (ahead_is n c s m l)

ahead_below : (n d s : ℕ) → d < n → s < n → ahead n d s < n
ahead_below n d s l m =
    ⊎_elim
    (λ (h : (s + d < n) × (ahead n d s ≡ s + d)). let x = h.0 in let y = h.1 in omega arith)
    (λ (h : (n ≤ s + d) × (ahead n d s + n ≡ s + d)). let y = h.1 in omega arith)
    (ahead_is n d s l m)

not_both : (b c : Bool) → c ≡ false → (b && c) ≡ false
not_both true c h = h
not_both false c h = refl

-- ---- the acts
module _ {M : Type 0} (ops : Algebra M) (members : List ℕ) (tag : Tag) (slot into : ℕ) where
  abbrev n : ℕ
  n = length members

  abbrev turn : ℕ → ℕ → Act
  turn d s = sent_ahead members tag slot into d s

  turn_skips : (d s : ℕ) (state : State M) (r x : ℕ) → (member members (ahead n d s) == r && into + s == x) ≡ false → meaning ops (turn d s ∷ []) state r x ≡ state r x
  turn_skips d s state r x off = act_sent ops (member members s) (member members (ahead n d s)) tag (slot + ahead n d s) (into + s) state r x ∙ rw off refl

  -- a round changes no slot that none of its acts sets
  round_skips : (d : ℕ) (state : State M) (r x : ℕ) → ((s : ℕ) → s < n → (member members (ahead n d s) == r && into + s == x) ≡ false) → meaning ops (round members tag slot into d) state r x ≡ state r x
  round_skips d state r x off =
      ap (λ acts. meaning ops acts state r x) (sym (flat_map_single (turn d) (range_with_len 0 n)))
      ∙ each_skips ops (λ s. turn d s ∷ []) r x 0 n state (λ s _ l st. turn_skips d s st r x (off s (omega arith)))

  -- ranks that aren't members keep what they have
  rounds_elsewhere : (state : State M) (r x : ℕ) → is_member members r ≡ false → meaning ops (rounds members tag slot into) state r x ≡ state r x
  rounds_elsewhere state r x none =
      each_skips ops (round members tag slot into) r x 0 n state (λ d _ l st. round_skips d st r x (λ s m.
      let below = ahead_below n d s (omega arith) m in
      let off : (member members (ahead n d s) == r) ≡ false =
      split (member members (ahead n d s) == r)
      (λ t. let there : is_member members r ≡ true = list_any_at (λ m. m == r) members (ahead n d s) 0 below t in absurd (cc (there, none)))
      (λ f. f) in
      rw off refl))

  module _ (distinct : AreDistinct members) (apart : slot + n ≤ into) where
    round_sets : (d s t : ℕ) (state : State M) → s < n → t < n → ahead n d s ≡ t → meaning ops (round members tag slot into d) state (member members t) (into + s) ≡ state (member members s) (slot + t)
    round_sets d s t state l m e =
        ap (λ acts. meaning ops acts state (member members t) (into + s)) (sym (flat_map_single (turn d) (range_with_len 0 n)))
        ∙ each_sets ops (λ k. turn d k ∷ []) (member members t) (into + s) s (λ st. st (member members s) (slot + t)) 0 n state (omega arith) (omega arith)
        (λ st.
        act_sent ops (member members s) (member members (ahead n d s)) tag (slot + ahead n d s) (into + s) st (member members t) (into + s)
        ∙ rw (e, yes (member members t), yes (into + s)) refl)
        (λ k _ b ne st. turn_skips d k st (member members t) (into + s) (not_both (member members (ahead n d k) == member members t) (into + k == into + s) (no (into + k) (into + s) (let other : into + k ≢ into + s = omega (arith, ne) in other))))
        (λ k _ b ne st. turn_skips d k st (member members s) (slot + t) (not_both (member members (ahead n d k) == member members s) (into + k == slot + t) (no (into + k) (slot + t) (let other : into + k ≢ slot + t = omega arith in other))))

    -- slot slot + t of member s goes to slot into + s of member t
    rounds_bring : (state : State M) (s t : ℕ) → s < n → t < n → meaning ops (rounds members tag slot into) state (member members t) (into + s) ≡ state (member members s) (slot + t)
    rounds_bring state s t l m =
        let far = distance_to n s t l m in
        each_sets ops (round members tag slot into) (member members t) (into + s) far.0 (λ st. st (member members s) (slot + t)) 0 n state (omega arith) (let b = far.1 in omega arith)
        (λ st. round_sets far.0 s t st l m far.2)
        (λ d _ b ne st. round_skips d st (member members t) (into + s) (λ k o.
        ⊎_elim
        (λ (e : k ≡ s).
        let off : (member members (ahead n d s) == member members t) ≡ false =
        no (member members (ahead n d s)) (member members t) (λ same.
        ne (same_distance n s d far.0 l (omega arith) far.1 (same_member members (ahead n d s) t distinct (ahead_below n d s (omega arith) l) m same ∙ sym far.2))) in
        rw (e, off) refl)
        (λ (o : k ≢ s). not_both (member members (ahead n d k) == member members t) (into + k == into + s) (no (into + k) (into + s) (let other : into + k ≢ into + s = omega (arith, o) in other)))
        (cases_eq k s)))
        (λ d _ b ne st. round_skips d st (member members s) (slot + t) (λ k o.
        not_both (member members (ahead n d k) == member members s) (into + k == slot + t) (no (into + k) (slot + t) (let other : into + k ≢ slot + t = omega arith in other))))

-- ---- groups of q ranks that exchange side by side: each by the numbers of its members
module _ {M : Type 0} (ops : Algebra M) (q : ℕ) (tag : Tag) (number : ℕ → ℕ → ℕ) where
  abbrev group : ℕ → List ℕ
  group g = map (number g) (range_with_len 0 q)

  abbrev exchange : ℕ → List Act
  exchange g = rounds (group g) tag 1 (1 + q)

  module _ (distinct : (g : ℕ) → g < q → AreDistinct (group g)) (among : (g h p : ℕ) → g < q → h < q → p < q → is_member (group h) (number g p) ≡ (h == g)) where
    elsewhere : (h : ℕ) (st : State M) → h < q → (g p x : ℕ) → g < q → p < q → h ≢ g → meaning ops (exchange h) st (number g p) x ≡ st (number g p) x
    elsewhere h st b g p x l m ne = rounds_elsewhere ops (group h) tag 1 (1 + q) st (number g p) x (among g h p l b m ∙ no h g ne)

    here : (g : ℕ) (st : State M) → g < q → (p k : ℕ) → p < q → k < q → meaning ops (exchange g) st (number g k) (1 + q + p) ≡ st (number g p) (1 + k)
    here g st b p k l m =
        let count : length (group g) ≡ q = length-map-range_with_len (number g) 0 q in
        let at : (t : ℕ) → t < q → member (group g) t ≡ number g t = λ t o. get_or-map-range_with_len (number g) 0 q t t 0 o (omega arith) in
        ap (λ r. meaning ops (exchange g) st r (1 + q + p)) (sym (at k m))
        ∙ rounds_bring ops (group g) tag 1 (1 + q) (distinct g b) (omega arith) st p k (omega arith) (omega arith)
        ∙ ap (λ r. st r (1 + k)) (at p l)

    -- slot 1 + k of member p of each group goes to slot 1 + q + p of member k
    groups_exchange : (st : State M) (g p k : ℕ) → g < q → p < q → k < q → meaning ops (flat_map exchange (range_with_len 0 q)) st (number g k) (1 + q + p) ≡ st (number g p) (1 + k)
    groups_exchange st g p k b l m =
        each_sets ops exchange (number g k) (1 + q + p) g (λ st. st (number g p) (1 + k)) 0 q st (omega arith) (omega arith)
        (λ st. here g st b p k l m)
        (λ h _ o ne st. elsewhere h st (omega arith) g k (1 + q + p) b m ne)
        (λ h _ o ne st. elsewhere h st (omega arith) g p (1 + k) b l ne)

module _ {M : Type 0} (ops : Algebra M) (q : ℕ) (tag : Tag) (st : State M) where
  -- rank (i, k) has what rank (i, j) had for it
  pub rows_exchange : (i j k : ℕ) → i < q → j < q → k < q → meaning ops (row_exchanges q tag) st (i * q + k) (1 + q + j) ≡ st (i * q + j) (1 + k)
  rows_exchange = groups_exchange ops q tag (λ i j. i * q + j) (row_distinct q) (λ g h p _ _ m. in_row q g p h m) st

  -- and rank (k, j) what rank (i, j) had for it
  pub columns_exchange : (i j k : ℕ) → i < q → j < q → k < q → meaning ops (column_exchanges q tag) st (k * q + j) (1 + q + i) ≡ st (i * q + j) (1 + k)
  columns_exchange i j k l m o = groups_exchange ops q tag (λ j i. i * q + j) (column_distinct q) (λ g h p b n m. in_column q p g h m b n) st j i k m l o
