-- The ranks of a new world, made from their stores, the last first.
use Rattle.std.proofs.Common.{ℕ, zero, suc, ◌≡◌, ◌<◌, ◌+◌, List, [], ◌∷◌, ◌++◌, length, refl, sym, ◌∙◌, ◌-◌, ap, subst, arith, append_assoc, length-append}
use Rattle.std.specs.Prelude.{map, reverse, get_or}
use Rattle.std.proofs.lemmas.List.{reverse-append}
use Rattle.std.proofs.Math.Seq.{get_or-append_right}
use Rattle.cb_matrix.specs.Sparse.{Sparse}
use Rattle.cb_plan.specs.declared.acts.Start.{Start}
use Rattle.cb_plan.specs.declared.stores.Slot.{Slot}
use Rattle.cb_plan.specs.Plans.{CheckedView}
use Rattle.cb_plan.specs.Stores.{Fits}
use Rattle.cb_rank.specs.Ranks.{RankView, FitsAt, new_rank}
use Rattle.cb_rank_world.specs.Starting.{new_ranks, AreNewBoxes}
use Rattle.cb_rank_world.specs.Worlds.{WorldView, IsNewWorld, no_rank}

-- a list of slots for each rank
abbrev pub Stores : Type 0
Stores = List (List (Slot Sparse))

-- if all stores fit, each rank's store fits
pub fits_at : (ranks : ℕ) (starts : List Start) (stores : Stores) (r : ℕ) → Fits ranks starts stores → r < ranks → FitsAt starts r (get_or stores r [])
fits_at ranks starts stores r fits h = record {
  size = fits.table.cols r h;
  shapes = λ n. ap (λ (f : ℕ → ℕ → _). f r n) fits.shapes;
  none_lost = λ n. fits.none_lost r n;
}

-- the stores that are left, the ranks made from the others, and the stores of these
pub record AreStarting (p : CheckedView) (first stores : Stores) (ranks : List RankView) (rest : Stores) : Type 0 where
  pub whole : stores ++ rest ≡ first
  pub made : reverse ranks ≡ new_ranks p (length stores) rest

length-new_ranks : (p : CheckedView) (k : ℕ) (stores : Stores) → length (new_ranks p k stores) ≡ length stores
length-new_ranks p k [] = refl
length-new_ranks p k (s ∷ ss) = ap suc (length-new_ranks p (k + 1) ss)

-- ranks have the stores that they were made from
pub slots_of : (p : CheckedView) (k : ℕ) (stores : Stores) → map (λ (x : RankView). x.slots) (new_ranks p k stores) ≡ stores
slots_of p k [] = refl
slots_of p k (s ∷ ss) = ap (λ xs. s ∷ xs) (slots_of p (k + 1) ss)

pub read_rank : (p : CheckedView) (k : ℕ) (stores : Stores) (i : ℕ) → i < length stores → get_or (new_ranks p k stores) i no_rank ≡ new_rank p (k + i) (get_or stores i [])
read_rank p k [] i h = absurd (omega arith)
read_rank p k (s ∷ ss) zero h = let e : k + 0 ≡ k = omega arith in rw e refl
read_rank p k (s ∷ ss) (suc i) h = let e : k + suc i ≡ k + 1 + i = omega arith in rw e (read_rank p (k + 1) ss i (omega arith))

-- the last store left is that of the rank whose number is the count of those before it
last_store : (stores rest : Stores) (store blank : List (Slot Sparse)) → get_or ((stores ++ store ∷ []) ++ rest) (length stores) blank ≡ store
last_store stores rest store blank =
    let z : length stores - length stores ≡ 0 = omega arith in
    let at : ℕ → List (Slot Sparse) = λ k. get_or (store ∷ rest) k blank in
    rw (append_assoc stores (store ∷ []) rest) (get_or-append_right stores (store ∷ rest) (length stores) blank (omega arith) ∙ ap at z)

-- so that store fits its rank
pub store_fits : (p : CheckedView) (first before stores : Stores) (store : List (Slot Sparse)) (ranks : List RankView) (rest : Stores) (n : ℕ) → Fits p.ranks p.starts first → AreStarting p first before ranks rest → before ≡ stores ++ store ∷ [] → n ≡ length stores → FitsAt p.starts n store
store_fits p first before stores store ranks rest n fits are popped number =
    let whole : (stores ++ store ∷ []) ++ rest ≡ first = ap (λ xs. xs ++ rest) (sym popped) ∙ are.whole in
    let long : length ((stores ++ store ∷ []) ++ rest) ≡ length stores + 1 + length rest = length-append (stores ++ store ∷ []) rest ∙ ap (λ k. k + length rest) (length-append stores (store ∷ [])) in
    let size : length first ≡ length stores + 1 + length rest = ap length (sym whole) ∙ long in
    let rows = fits.table.rows in
    let blank : List (Slot Sparse) = [] in
    let here : get_or first n blank ≡ store = rw number (ap (λ xs. get_or xs (length stores) blank) (sym whole) ∙ last_store stores rest store blank) in
    subst (FitsAt p.starts n) here (fits_at p.ranks p.starts first n fits (omega arith))

-- one more rank, made from the last store left
pub one_rank_more : (p : CheckedView) (first stores : Stores) (store : List (Slot Sparse)) (ranks : List RankView) (rest : Stores) → AreStarting p first (stores ++ store ∷ []) ranks rest → AreStarting p first stores (ranks ++ new_rank p (length stores) store ∷ []) (store ∷ rest)
one_rank_more p first stores store ranks rest are = record {
  whole = sym (append_assoc stores (store ∷ []) rest) ∙ are.whole;
  made =
      let size : length (stores ++ store ∷ []) ≡ length stores + 1 = length-append stores (store ∷ []) in
      reverse-append ranks (new_rank p (length stores) store ∷ []) ∙ ap (λ xs. new_rank p (length stores) store ∷ xs) (are.made ∙ ap (λ k. new_ranks p k rest) size);
}

-- the stores come back as they were
pub all_back : (p : CheckedView) (first stores : Stores) (ranks : List RankView) (rest : Stores) → AreStarting p first stores ranks rest → stores ++ map (λ (x : RankView). x.slots) (reverse ranks) ≡ first
all_back p first stores ranks rest are = ap (λ xs. stores ++ map (λ (x : RankView). x.slots) xs) are.made ∙ ap (λ xs. stores ++ xs) (slots_of p (length stores) rest) ∙ are.whole

-- once no store is left, the world is a new one
pub new_world : (p : CheckedView) (stores : Stores) (c : ℕ) (w : WorldView) → w.plan ≡ p → w.first ≡ stores → w.capacity ≡ c → Fits p.ranks p.starts stores → w.ranks ≡ new_ranks p 0 stores → AreNewBoxes p.ranks c w.boxes → IsNewWorld p stores c w
new_world p stores c w plan first capacity fits ranks boxes =
    let rows = fits.table.rows in
    record {
      plan = plan;
      first = first;
      capacity = capacity;
      sizes = (ap length ranks ∙ length-new_ranks p 0 stores ∙ rows, boxes.size);
      ranks = λ r l. let z : 0 + r ≡ r = omega arith in ap (λ rs. get_or rs r no_rank) ranks ∙ read_rank p 0 stores r (omega arith) ∙ ap (λ k. new_rank p k (get_or stores r [])) z;
      boxes = boxes.owners;
      lanes = boxes.lanes;
    }
