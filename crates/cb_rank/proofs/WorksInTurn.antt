-- A rank that adds products to one slot, one after the other.
use Rattle.std.proofs.Common.{◌≡◌, ◌≢◌, ℕ, zero, suc, ◌+◌, ◌-◌, ◌≤◌, true, List, [], ◌∷◌, length, length-drop, map, take, drop, refl, sym, ap, subst, ◌∙◌, arith, inl}
use Rattle.std.specs.Prelude.{Option, Some, None, All, is_some, slice_get, ◌==◌, ◌&&◌}
use Rattle.std.proofs.lemmas.Bool.Decides.{nat_tests}
use Rattle.std.proofs.lemmas.List.{take_all}
use Rattle.std.proofs.lemmas.List.Elements.{All-nil, All-cons, All-weaker}
use Rattle.cb_semirings.specs.Arithmetic.{Arithmetic}
use Rattle.cb_matrix.specs.Sparse.{Sparse, Extent}
use Rattle.cb_plan.specs.declared.acts.Act.{Act}
use Rattle.cb_plan.specs.declared.acts.Half.{Half}
use Rattle.cb_plan.specs.declared.acts.Half.TheVariants as half_is
use Rattle.cb_plan.specs.declared.stores.Slot.{Slot}
use Rattle.cb_plan.specs.Algebras.{shapes}
use Rattle.cb_plan.specs.Checks.{all_below, all_filled, operands_of, shapes_agree}
use Rattle.cb_plan.specs.Meaning.{State, act, three}
use Rattle.cb_plan.proofs.Effects.{split}
use Rattle.cb_rank_work.specs.Slots.{adding}
use Rattle.cb_rank.specs.Halves.{work_result, worked, worked_all}
use Rattle.cb_rank.specs.Ranks.{RankView, IsRank, next_half, onward, shapes_at}
use Rattle.cb_rank.specs.Steps.{Works, WorksTimes, WorksOn}
use Rattle.cb_rank.specs.AddedProducts.{AddsProduct, AddProducts, FitProduct}
use Rattle.cb_rank.proofs.Halves.{is_work}
use Rattle.cb_rank.proofs.NextAct.{finds, next_one, outline, shapes_next}
use Rattle.cb_rank.proofs.RankAfterHalf.{works_on}

-- the first of the halves that are left, and those after it
pub first_of : (acc : ℕ) (halves : List Half) (k : ℕ) (p : ℕ × ℕ) (ps : List (ℕ × ℕ)) → AddProducts (drop k halves) acc (p ∷ ps)
    → (slice_get halves k ≡ Some (half_is.Work (adding acc p))) × AddsProduct acc (half_is.Work (adding acc p)) p × AddProducts (drop (k + 1) halves) acc ps
first_of acc [] zero p ps add = absurd add
first_of acc [] (suc k) p ps add = absurd add
first_of acc (h ∷ hs) zero p ps add = (ap Some add.0.does, record { does = refl; apart = add.0.apart }, add.1)
first_of acc (h ∷ hs) (suc k) p ps add = let n : suc k + 1 ≡ suc (k + 1) = omega arith in rw n (first_of acc hs k p ps add)

-- the halves that are left, as a part of the program
pub left_over : (acc : ℕ) (halves program : List Half) (k : ℕ) (ps : List (ℕ × ℕ)) → halves ≡ program → AddProducts (take (length halves - k) (drop k halves)) acc ps → AddProducts (drop k program) acc ps
left_over acc halves program k ps same add =
    let size = length-drop k program in
    let rest : take (length program - k) (drop k program) ≡ drop k program = take_all (length program - k) (drop k program) (omega arith) in
    subst (λ hs. AddProducts hs acc ps) rest (subst (λ hs. AddProducts (take (length hs - k) (drop k hs)) acc ps) same add)

-- what is added to keeps its shape
same_third : (x y z : Option Extent) → (is_some x && (is_some y && (is_some z && true))) ≡ true → three shapes.mul_add x y z ≡ z
same_third (Some a) (Some b) (Some c) e = refl
same_third None y z e = cc
same_third (Some a) None z e = cc
same_third (Some a) (Some b) None e = cc

-- in slots of these shapes a product may be added to a slot
record HasFound (acc : ℕ) (shape : ℕ → Option Extent) (p : ℕ × ℕ) : Type 0 where
  pub exist : all_below 256 (acc ∷ p.0 ∷ p.1 ∷ acc ∷ []) ≡ true
  pub apart : (acc ≢ p.0) × (acc ≢ p.1)
  pub filled : all_filled shape (operands_of (adding acc p)) ≡ true
  pub agree : shapes_agree shape (adding acc p) ≡ true

module _ (s : Arithmetic) (acc : ℕ) where
  -- a rank that adds a product next
  module _ (x : RankView) (p : ℕ × ℕ) (is : IsRank x) (next : next_half x ≡ Some (half_is.Work (adding acc p))) where
    abbrev h : Half
    h = half_is.Work (adding acc p)

    -- the rank after that
    abbrev between : RankView
    between = onward x (worked s (adding acc p) x.slots) x.refusals

    between_is : IsRank between
    between_is = works_on s x (adding acc p) (work_result s (adding acc p) x.slots) x.refusals is next (inl (refl, refl))

    works_once : Works s x (next_half x) between
    works_once = subst (λ h. Works s x h between) (sym next) (work_result s (adding acc p) x.slots, inl (refl, refl), refl)

    -- the shapes that the check gives the slots stay
    shapes_stay : (n : ℕ) → shapes_at x.plan x.me (x.done + 1) n ≡ shapes_at x.plan x.me x.done n
    shapes_stay n =
        let o : State Extent = outline x h is next in
        let a : Act = (next_one x h is next).0 in
        let e : a ≡ _ = is_work o a x.me (adding acc p) (next_one x h is next).2 in
        let own : (x.me == x.me) ≡ true = grind (arith, nat_tests) in
        let kept : act shapes a o x.me n ≡ o x.me n =
        split (acc == n)
        (λ t. let same : acc ≡ n = grind (arith, nat_tests) in rw (e, own, t) (same_third (o x.me p.0) (o x.me p.1) (o x.me acc) (finds x h is next).1 ∙ ap (o x.me) same))
        (λ f. rw (e, own, f) refl) in
        shapes_next x h is next n ∙ kept

  -- the rank after these products
  abbrev pub later : RankView → List (ℕ × ℕ) → RankView
  later x ps = record x { done = x.done + length ps; slots = worked_all s (map (adding acc) ps) x.slots }

  -- a rank whose next halves add products does them one after the other, and is one then
  pub works_times : (x : RankView) (ps : List (ℕ × ℕ)) → IsRank x → AddProducts (drop x.done x.program) acc ps → WorksTimes s (length ps) x (later x ps) × IsRank (later x ps)
  works_times x [] is add =
      let same : later x [] ≡ x = ap (λ n. record x { done = n }) (let n : x.done + 0 ≡ x.done = omega arith in n) in
      (same, subst IsRank (sym same) is)
  works_times x (p ∷ ps) is add =
      let it = first_of acc x.program x.done p ps add in
      let mid : RankView = between x p is it.0 in
      let rest = works_times mid ps (between_is x p is it.0) it.2 in
      let n : (x.done + 1) + length ps ≡ x.done + length (p ∷ ps) = omega arith in
      let same : later mid ps ≡ later x (p ∷ ps) = ap (λ k. record x { done = k; slots = worked_all s (map (adding acc) (p ∷ ps)) x.slots }) n in
      ((mid, between_is x p is it.0, works_once x p is it.0, subst (λ y. WorksTimes s (length ps) mid y) same rest.0), subst IsRank same rest.1)

  found_all : (x : RankView) (ps : List (ℕ × ℕ)) → IsRank x → AddProducts (drop x.done x.program) acc ps → All (HasFound acc (shapes_at x.plan x.me x.done)) ps
  found_all x [] is add = All-nil (HasFound acc (shapes_at x.plan x.me x.done))
  found_all x (p ∷ ps) is add =
      let it = first_of acc x.program x.done p ps add in
      let f = finds x (half_is.Work (adding acc p)) is it.0 in
      let rest = found_all (between x p is it.0) ps (between_is x p is it.0) it.2 in
      let same : shapes_at x.plan x.me (x.done + 1) ≡ shapes_at x.plan x.me x.done = λ i n. shapes_stay x p is it.0 n i in
      All-cons (HasFound acc (shapes_at x.plan x.me x.done)) p ps (record { exist = f.0; apart = it.1.apart; filled = f.1; agree = f.2 })
      (subst (λ v. All (HasFound acc v) ps) same rest)

  -- the slots as they are have what it takes to add each of them
  pub all_fit : (x : RankView) (ps : List (ℕ × ℕ)) → IsRank x → AddProducts (drop x.done x.program) acc ps → All (FitProduct x.slots acc) ps
  all_fit x ps is add =
      All-weaker (HasFound acc (shapes_at x.plan x.me x.done)) (FitProduct x.slots acc)
      (λ p f. record { exist = three_below acc p.0 p.1 f.exist; apart = f.apart; fits = (shapes_at x.plan x.me x.done, f.filled, f.agree, is.shapes) }) ps (found_all x ps is add)
    where
      three_below : (a b c : ℕ) → all_below 256 (a ∷ b ∷ c ∷ a ∷ []) ≡ true → all_below 256 (a ∷ b ∷ c ∷ []) ≡ true
      three_below a b c e = grind (arith, nat_tests)

  -- so a rank that has done two or more of them at once is one, and has done them one after the other
  pub worked_on : (x : RankView) (ps qs : List (ℕ × ℕ)) (slots : List (Slot Sparse)) (n : ℕ) → IsRank x → AddProducts (drop x.done x.program) acc ps → 2 ≤ length ps → qs ≡ ps → slots ≡ worked_all s (map (adding acc) qs) x.slots → n ≡ length qs
      → IsRank (record x { done = x.done + n; slots = slots }) × WorksOn s x (record x { done = x.done + n; slots = slots })
  worked_on x ps qs slots n is add two same set count =
      let all = works_times x ps is add in
      let k : n ≡ length ps = count ∙ ap length same in
      let l : slots ≡ worked_all s (map (adding acc) ps) x.slots = set ∙ ap (λ rs. worked_all s (map (adding acc) rs) x.slots) same in
      let y : later x ps ≡ record x { done = x.done + n; slots = slots } = ap (λ m. record x { done = x.done + m; slots = worked_all s (map (adding acc) ps) x.slots }) (sym k) ∙ ap (λ z. record x { done = x.done + n; slots = z }) (sym l) in
      (subst IsRank y all.1, (length ps, two, subst (λ z. WorksTimes s (length ps) x z) y all.0))
