-- The ends of lanes that a desk holds, by the rank at the other end. There is none at the desk's own number.
use Rattle.std.specs.Prelude.{ℕ, ◌≡◌, ◌≢◌, ◌+◌, ◌≤◌, ◌<◌, ◌==◌, false, not, List, [], ◌∷◌, ◌++◌, length, Option, Some, None, is_some, slice_index_or}
use Rattle.std.specs.declared.vec.Vec.{Vec}
use denote.RawPtr.{Ptr}
use Rattle.std.specs.declared.alloc.Global.{Global}
use Rattle.rtrb.specs.Shared.{Names}
use Rattle.rtrb.specs.Ring.{sent, received, known_free, known_items, producer_capacity}
use Rattle.rtrb.specs.declared.end.End.{End}
use Rattle.cb_letters.specs.declared.Letter.{Letter}
use Rattle.cb_letters.specs.Posted.{standing_by}
use Rattle.cb_letters.specs.Standing.{Standing}
use Rattle.cb_rings.specs.declared.ring_ends.Poster.{Poster}
use Rattle.cb_rings.specs.declared.ring_ends.Taker.{Taker}

-- what distinguishes a ring from every other
abbrev pub RingName : Type 0
RingName = Ptr × Ptr × Names × Global

abbrev pub ring_name : {T P : Type 0} → End T Global P → RingName
ring_name e = (e.words, e.slots, e.names, e.heap)

module _ {P : Type 0} where
  -- how the lane stands on which this rank posts by this end
  abbrev pub standing_at : ℕ → Poster P → Standing
  standing_at from lane = standing_by from false (sent lane.ring)

  -- at least as many letters were posted as the lane has places
  abbrev pub MayBeFull : Poster P → Type 0
  MayBeFull lane = producer_capacity lane.ring ≤ length (sent lane.ring)

  -- one more letter was posted at this end
  abbrev pub Sends : Poster P → Poster P → Letter P → Type 0
  Sends old new x = sent new.ring ≡ sent old.ring ++ x ∷ []

  -- no letter was posted at this end
  abbrev pub KeepsSent : Poster P → Poster P → Type 0
  KeepsSent old new = sent new.ring ≡ sent old.ring

  abbrev pub sent_by : Option (Poster P) → List (Letter P)
  sent_by None = []
  sent_by (Some lane) = sent lane.ring

  abbrev pub room_of : Option (Poster P) → ℕ
  room_of None = 0
  room_of (Some lane) = known_free lane.ring

  abbrev pub capacity_of : Option (Poster P) → ℕ
  capacity_of None = 0
  capacity_of (Some lane) = producer_capacity lane.ring

  abbrev pub received_by : Option (Taker P) → List (Letter P)
  received_by None = []
  received_by (Some lane) = received lane.ring

  -- the letters that this end has seen in the ring and not taken yet
  abbrev pub known_by : Option (Taker P) → List (Letter P)
  known_by None = []
  known_by (Some lane) = known_items lane.ring

  abbrev pub outgoing_ring : Option (Poster P) → Option RingName
  outgoing_ring None = None
  outgoing_ring (Some lane) = Some (ring_name lane.ring.end)

  abbrev pub incoming_ring : Option (Taker P) → Option RingName
  incoming_ring None = None
  incoming_ring (Some lane) = Some (ring_name lane.ring.end)

  -- the two ends of a new lane from one rank to another, with room for c letters; a rank has no lane to itself
  abbrev pub IsNewLane : ℕ → ℕ → ℕ → Option (Poster P) → Option (Taker P) → Type 0
  IsNewLane from to c o i =
      (is_some o ≡ not (from == to))
      × (is_some i ≡ not (from == to))
      × (outgoing_ring o ≡ incoming_ring i)
      × (sent_by o ≡ [])
      × (received_by i ≡ [])
      × (from ≢ to → room_of o ≡ c)
      × (from ≢ to → capacity_of o ≡ c)

  abbrev pub out_at : List (Option (Poster P)) → ℕ → Option (Poster P)
  out_at ends k = slice_index_or ends k None

  abbrev pub in_at : List (Option (Taker P)) → ℕ → Option (Taker P)
  in_at ends k = slice_index_or ends k None

  -- each column has this many ends
  abbrev pub AreColumns : List (Vec (Option (Taker P)) Global) → ℕ → Type 0
  AreColumns columns n = (j : ℕ) (d : Vec (Option (Taker P)) Global) → j < length columns → length (slice_index_or columns j d).items ≡ n

  -- a new lane was opened from this rank to each: its posting end is in the row, and its taking end is the last of its
  -- column
  abbrev pub IsRow : ℕ → ℕ → List (Option (Poster P)) → List (Vec (Option (Taker P)) Global) → List (Vec (Option (Taker P)) Global) → Type 0
  IsRow from c row old new =
      (j : ℕ) (d : Vec (Option (Taker P)) Global) → j < length row
      → (length (slice_index_or new j d).items ≡ from + 1)
      × ((i : ℕ) → i < from → in_at (slice_index_or new j d).items i ≡ in_at (slice_index_or old j d).items i)
      × IsNewLane from j c (out_at row j) (in_at (slice_index_or new j d).items from)

  abbrev pub row_at : List (Vec (Option (Poster P)) Global) → ℕ → Vec (Option (Poster P)) Global → List (Option (Poster P))
  row_at rows i r = (slice_index_or rows i r).items

  abbrev pub column_at : List (Vec (Option (Taker P)) Global) → ℕ → Vec (Option (Taker P)) Global → List (Option (Taker P))
  column_at columns j d = (slice_index_or columns j d).items

  -- each row has this many ends
  abbrev pub AreRows : List (Vec (Option (Poster P)) Global) → ℕ → Type 0
  AreRows rows n = (i : ℕ) (r : Vec (Option (Poster P)) Global) → i < length rows → length (row_at rows i r) ≡ n

  -- rows and columns hold the ends of new lanes, each from the row's rank to the column's
  abbrev pub AreNewLanes : ℕ → List (Vec (Option (Poster P)) Global) → List (Vec (Option (Taker P)) Global) → Type 0
  AreNewLanes c rows columns =
      (i j : ℕ) (r : Vec (Option (Poster P)) Global) (d : Vec (Option (Taker P)) Global)
      → i < length rows → j < length columns
      → IsNewLane i j c (out_at (row_at rows i r) j) (in_at (column_at columns j d) i)
