-- What the ranks of a crew leave once all have run and the lanes are settled.
use Rattle.std.proofs.Common.{◌≡◌, ℕ, ◌<◌, ◌^◌, List, length, sym, ◌∙◌, ap, subst, arith}
use Rattle.std.specs.Prelude.{sum}
use Rattle.std.specs.List.{AllZip}
use Rattle.std.proofs.lemmas.List.{length-map}
use Rattle.std.proofs.lemmas.List.Elements.{length_all_zip}
use Rattle.cb_semirings.specs.Arithmetic.{Arithmetic}
use Rattle.cb_matrix.specs.Sparse.{Sparse}
use Rattle.cb_plan.specs.declared.stores.Slot.{Slot}
use Rattle.cb_plan.specs.Plans.{CheckedView, IsChecked}
use Rattle.cb_plan.specs.Stores.{Fits}
use Rattle.cb_lanes.specs.declared.desk.Desk.{Desk}
use Rattle.cb_lanes.specs.declared.settled.Settled.{Settled}
use Rattle.cb_lanes.specs.Desks.{capacity_in, posted_in, taken_in, AreSettledLanes}
use Rattle.cb_lanes.specs.Lanes.{rank_count, capacity_on, posted_on, taken_on}
use Rattle.cb_rank_runs.specs.Crews.{Member, desks_of, stores_of, counts_of, HaveCapacity, Ran, IsCrew}
use Rattle.cb_rank_runs.specs.Finished.{FinishedView, FinishesPlan, LanesHold}
use Rattle.cb_rank_runs.specs.Remains.{IsLeftBy}
use Rattle.cb_rank_runs.proofs.Crews.{finished_by, finishes_all, is_finished, still_capacity}

module _ (crew : List Member) (stores : List (List (Slot Sparse))) (refusals : List ℕ) (desks : List (Desk Sparse)) (w : Settled Sparse)
    (stores_are : stores ≡ stores_of crew) (refusals_are : refusals ≡ counts_of crew) (desks_are : desks ≡ desks_of crew) where
  -- there is a count of refusals for each rank, and there are lanes between all ranks
  pub counted : rank_count w ≡ length desks → (length refusals ≡ length stores) × (rank_count w ≡ length stores)
  counted ranks =
      let size : length stores ≡ length crew = ap length stores_are ∙ length-map crew (λ (m : Member). m.0.slots) in
      let counts : length refusals ≡ length crew = ap length refusals_are ∙ length-map crew (λ (m : Member). m.0.refusals) in
      let lanes : length desks ≡ length crew = ap length desks_are ∙ length-map crew (λ (m : Member). m.1) in
      (counts ∙ sym size, ranks ∙ lanes ∙ sym size)

  -- the stores, the counts and the settled lanes are what the ranks left
  pub left_by : ((from to : ℕ) → posted_on w from to ≡ posted_in desks from to) → ((from to : ℕ) → taken_on w from to ≡ taken_in desks from to) → ((from to : ℕ) → capacity_on w from to ≡ capacity_in desks from to) → AreSettledLanes desks
      → IsLeftBy crew (record { stores = stores; refusals = refusals; posted = posted_on w; taken = taken_on w; capacity = capacity_on w })
  left_by posted taken capacities settled = record {
    stores = stores_are;
    refusals = refusals_are;
    posted = λ f t. posted f t ∙ ap (λ (ds : List (Desk Sparse)). posted_in ds f t) desks_are;
    taken = λ f t. taken f t ∙ ap (λ (ds : List (Desk Sparse)). taken_in ds f t) desks_are;
    capacities = λ f t. capacities f t ∙ ap (λ (ds : List (Desk Sparse)). capacity_in ds f t) desks_are;
    settled = subst AreSettledLanes desks_are settled;
  }

-- what was left, as one value
left_is : (crew : List Member) (f : FinishedView) → IsLeftBy crew f → f ≡ finished_by crew
left_is crew f left = λ i. record { stores = left.stores i; refusals = left.refusals i; posted = λ a b. left.posted a b i; taken = λ a b. left.taken a b i; capacity = λ a b. left.capacities a b i }

module _ (s : Arithmetic) (p : CheckedView) (first : List (List (Slot Sparse))) (crew done : List Member) (is : IsCrew p first crew) (ran : AllZip (Ran s) crew done) where
  -- if each rank of a plan's crew ran, what they left holds what the plan means
  pub ends_all : (f : FinishedView) → IsChecked p → p.ranks < 2 ^ 16 → Fits p.ranks p.starts first → IsLeftBy done f → FinishesPlan s p first f
  ends_all f checked few fits left =
      let size : length (desks_of done) ≡ length done = length-map done (λ (m : Member). m.1) in
      subst (λ g. FinishesPlan s p first g) (sym (left_is done f left))
      (finishes_all s p first crew done checked few fits is ran (λ a b l m ne. left.settled a b (omega arith) (omega arith) ne))

  -- the lanes held as many letters as those of the crew
  pub holds_all : (c : ℕ) (f : FinishedView) → HaveCapacity c crew → IsLeftBy done f → LanesHold p.ranks c f
  holds_all c f held left a b l m ne =
      let size : length done ≡ p.ranks = sym (length_all_zip (Ran s) crew done ran) ∙ is.count in
      left.capacities a b ∙ still_capacity s c crew done ran held a b (omega arith) (omega arith) ne

  -- the sum of the counts of refusals fits in 64 bits
  pub few_refused : p.ranks < 2 ^ 16 → sum (counts_of done) < 2 ^ 64
  few_refused few = (is_finished s p first crew done few is ran).fits
