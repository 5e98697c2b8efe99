-- There is a new world for every plan and stores that fit it, for every capacity.
use Rattle.std.proofs.Common.{◌≡◌, ℕ, zero, suc, ◌+◌, ◌<◌, List, [], ◌∷◌, length, replicate, refl, ◌∙◌, ap, arith}
use Rattle.std.specs.Prelude.{get_or}
use Rattle.std.proofs.lemmas.List.{get_or-replicate, length-replicate}
use Rattle.cb_matrix.specs.Sparse.{Sparse}
use Rattle.cb_letters.specs.Lane.{Lane, new_lane}
use Rattle.cb_mailbox.specs.Inbox.{Inbox, lane_from}
use Rattle.cb_plan.specs.declared.stores.Slot.{Slot}
use Rattle.cb_plan.specs.Plans.{CheckedView}
use Rattle.cb_plan.specs.Stores.{Fits}
use Rattle.cb_rank_world.specs.Ends.{box_in}
use Rattle.cb_rank_world.specs.Starting.{new_ranks, AreNewBoxes}
use Rattle.cb_rank_world.specs.Worlds.{WorldView, IsNewWorld}
use Rattle.cb_rank_world.proofs.NewRanks.{new_world}

-- a list of mailboxes, numbered from k, each with new lanes
abbrev boxes_from : ℕ → ℕ → ℕ → ℕ → List (Inbox Sparse)
boxes_from ranks capacity k zero = []
boxes_from ranks capacity k (suc n) = record { me = k; lanes = replicate ranks (new_lane capacity) } ∷ boxes_from ranks capacity (k + 1) n

count_of_boxes : (ranks capacity k n : ℕ) → length (boxes_from ranks capacity k n) ≡ n
count_of_boxes ranks capacity k zero = refl
count_of_boxes ranks capacity k (suc n) = ap suc (count_of_boxes ranks capacity (k + 1) n)

read_box : (ranks capacity k n i : ℕ) (d : Inbox Sparse) → i < n → get_or (boxes_from ranks capacity k n) i d ≡ record { me = k + i; lanes = replicate ranks (new_lane capacity) }
read_box ranks capacity k zero i d h = absurd (omega arith)
read_box ranks capacity k (suc n) zero d h = let e : k + 0 ≡ k = omega arith in rw e refl
read_box ranks capacity k (suc n) (suc i) d h = let e : k + suc i ≡ k + 1 + i = omega arith in rw e (read_box ranks capacity (k + 1) n i d (omega arith))

new_boxes : (ranks capacity : ℕ) → AreNewBoxes ranks capacity (boxes_from ranks capacity 0 ranks)
new_boxes ranks capacity =
    let lanes : List (Lane Sparse) = replicate ranks (new_lane capacity) in
    let read : (t : ℕ) → t < ranks → box_in (boxes_from ranks capacity 0 ranks) t ≡ record { me = t; lanes = lanes } = λ t l.
    let z : 0 + t ≡ t = omega arith in
    read_box ranks capacity 0 ranks t (record { me = t; lanes = [] }) l ∙ ap (λ k. record { me = k; lanes = lanes }) z in
    record {
      size = count_of_boxes ranks capacity 0 ranks;
      owners = λ t l. (ap (λ (b : Inbox Sparse). b.me) (read t l), ap (λ (b : Inbox Sparse). length b.lanes) (read t l) ∙ length-replicate ranks (new_lane capacity));
      lanes = λ f t l m ne. ap (λ (b : Inbox Sparse). lane_from b f) (read t m) ∙ get_or-replicate ranks f (new_lane capacity) (new_lane 0) l;
    }

-- a new world of a plan with these stores
pub some_world : (p : CheckedView) (stores : List (List (Slot Sparse))) (capacity : ℕ) → Fits p.ranks p.starts stores → (w : WorldView) × IsNewWorld p stores capacity w
some_world p stores capacity fits =
    let w : WorldView = record { plan = p; first = stores; capacity = capacity; ranks = new_ranks p 0 stores; boxes = boxes_from p.ranks capacity 0 p.ranks } in
    (w, new_world p stores capacity w refl refl refl fits refl (new_boxes p.ranks capacity))
