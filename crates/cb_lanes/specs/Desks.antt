-- What a contract sees of a desk.
use Rattle.std.specs.Prelude.{ℕ, ◌≡◌, ◌≢◌, ◌≤◌, ◌<◌, ◌||◌, ◌==◌, nat_le, Bool, true, List, [], ◌∷◌, ◌++◌, length, map, Option, None, slice_index_or, slice_get}
use Rattle.std.specs.Option.{option_map_or}
use Rattle.cb_letters.specs.declared.Letter.{Letter}
use Rattle.cb_letters.specs.declared.Taken.{Taken}
use Rattle.cb_letters.specs.declared.PostRefusal.{PostRefusal}
use Rattle.cb_letters.specs.Standing.{Standing, MayRefuse}
use Rattle.cb_letters.specs.Posted.{standing_by, GrowsBy, is_end, ends_closed}
use mathlib.Core.List.{IsPrefix}
use Rattle.std.specs.declared.vec.Vec.{Vec}
use Rattle.std.specs.declared.alloc.Global.{Global}
use Rattle.cb_rings.specs.declared.ring_ends.Poster.{Poster}
use Rattle.cb_rings.specs.declared.ring_ends.Taker.{Taker}
use Rattle.cb_lanes.specs.declared.desk.Desk.{Desk}
use Rattle.cb_rings.specs.Numbers.{AreNumbered}
use Rattle.cb_rings.specs.Ends.{RingName, sent_by, room_of, capacity_of, received_by, known_by, outgoing_ring, incoming_ring}

-- whose desk it is, and which rings it has ends of
pub record Identity : Type 0 where
  pub me : ℕ
  pub outgoing : List (Option RingName)
  pub incoming : List (Option RingName)

-- the k-th of them
abbrev pub identity_at : List Identity → ℕ → Identity
identity_at ids k = slice_index_or ids k (record { me = 0; outgoing = []; incoming = [] })

-- the ring of the lane to this rank
abbrev pub ring_to : Identity → ℕ → Option RingName
ring_to a k = slice_index_or a.outgoing k None

-- the ring of the lane from this rank
abbrev pub ring_from : Identity → ℕ → Option RingName
ring_from a k = slice_index_or a.incoming k None

-- all desks of one opening, in order of their ranks: a lane's posting end and its taking end are of one ring
pub record AreOfOneOpening (ids : List Identity) : Type 0 where
  pub places : (k : ℕ) → k < length ids → (identity_at ids k).me ≡ k
  pub ranks : (k : ℕ) → k < length ids → (length (identity_at ids k).outgoing ≡ length ids) × (length (identity_at ids k).incoming ≡ length ids)
  pub rings : (i j : ℕ) → i < length ids → j < length ids → ring_to (identity_at ids i) j ≡ ring_from (identity_at ids j) i

-- two desks hold the ends of the two lanes between them
pub record AreLinked (a b : Identity) : Type 0 where
  pub apart : a.me ≢ b.me
  pub there : ring_to a b.me ≡ ring_from b a.me
  pub back : ring_to b a.me ≡ ring_from a b.me
  pub inside_a : (b.me < length a.outgoing) × (b.me < length a.incoming)
  pub inside_b : (a.me < length b.outgoing) × (a.me < length b.incoming)

module _ {P : Type 0} where
  -- the letters that the desk posted to this rank, oldest first
  abbrev pub posted_to : Desk P → ℕ → List (Letter P)
  posted_to d to = sent_by (slice_index_or d.outgoing.items to None)

  -- the letters that the desk took from this rank, oldest first
  abbrev pub taken_from : Desk P → ℕ → List (Letter P)
  taken_from d from = received_by (slice_index_or d.incoming.items from None)

  -- for how many more letters to this rank the desk knows of room
  abbrev pub room_to : Desk P → ℕ → ℕ
  room_to d to = room_of (slice_index_or d.outgoing.items to None)

  abbrev pub capacity_to : Desk P → ℕ → ℕ
  capacity_to d to = capacity_of (slice_index_or d.outgoing.items to None)

  -- the rank itself, or no rank
  abbrev pub is_stranger : Desk P → ℕ → Bool
  is_stranger d k = (k == d.me) || nat_le (length d.outgoing.items) k

  abbrev pub identity : Desk P → Identity
  identity d = record { me = d.me; outgoing = map outgoing_ring d.outgoing.items; incoming = map incoming_ring d.incoming.items }

  -- nothing was posted, and no less room is known
  abbrev pub KeepsPosted : Desk P → Desk P → Type 0
  KeepsPosted a b = (k : ℕ) → (posted_to b k ≡ posted_to a k) × (room_to a k ≤ room_to b k) × (capacity_to b k ≡ capacity_to a k)

  abbrev pub KeepsTaken : Desk P → Desk P → Type 0
  KeepsTaken a b = (k : ℕ) → taken_from b k ≡ taken_from a k

  -- the letter was posted to this rank, and nothing else
  abbrev pub AddsPosted : Desk P → Desk P → ℕ → Letter P → Type 0
  AddsPosted a b to x =
      (posted_to b to ≡ posted_to a to ++ x ∷ [])
      × (capacity_to b to ≡ capacity_to a to)
      × ((k : ℕ) → k ≢ to → (posted_to b k ≡ posted_to a k) × (room_to a k ≤ room_to b k) × (capacity_to b k ≡ capacity_to a k))

  -- what was taken from this rank grew by a take with this answer, and nothing else did
  abbrev pub AddsTaken : Desk P → Desk P → ℕ → Taken P → Type 0
  AddsTaken a b from r = GrowsBy (taken_from a from) (taken_from b from) r × ((k : ℕ) → k ≢ from → taken_from b k ≡ taken_from a k)

  -- how the lane to this rank stands
  abbrev pub standing : Desk P → ℕ → Standing
  standing d to = standing_by d.me (is_stranger d to) (posted_to d to)

  -- the desk knows of a free place for a letter to this rank
  abbrev pub has_room : Desk P → ℕ → Type 0
  has_room d to = 0 < room_to d to

  -- the desk knows of a letter from this rank
  abbrev pub has_letter : Desk P → ℕ → Type 0
  has_letter d from = 0 < length (known_by (slice_index_or d.incoming.items from None))

  -- at least as many letters were posted to this rank as the lane has places
  abbrev pub may_be_full : Desk P → ℕ → Type 0
  may_be_full d to = capacity_to d to ≤ length (posted_to d to)

  -- a post to this rank may be refused for this reason
  abbrev pub MayRefusePost : Desk P → ℕ → PostRefusal → Type 0
  MayRefusePost d to reason = MayRefuse (standing d to) (may_be_full d to) reason

  -- nothing was posted and nothing taken
  abbrev pub Keeps : Desk P → Desk P → Type 0
  Keeps a b = (identity b ≡ identity a) × KeepsPosted a b × KeepsTaken a b

  -- this letter was posted to this rank, and nothing else happened
  abbrev pub Posts : Desk P → ℕ → Letter P → Desk P → Type 0
  Posts a to x b = (identity b ≡ identity a) × AddsPosted a b to x × KeepsTaken a b

  -- a take from this rank gave this answer, and nothing else happened. The lane has ended exactly if the last letter taken
  -- is a close mark, and then nothing more is taken. The letters taken are numbered from 0
  abbrev pub Takes : Desk P → ℕ → Taken P → Desk P → Type 0
  Takes a from r b =
      (identity b ≡ identity a)
      × KeepsPosted a b
      × AddsTaken a b from r
      × (is_end r ≡ ends_closed (taken_from b from))
      × (ends_closed (taken_from a from) ≡ true → taken_from b from ≡ taken_from a from)
      × AreNumbered (taken_from b from)

  -- the desk of rank k of n, whose lanes have room for c letters; nothing was posted or taken
  pub record IsNewDesk (c n k : ℕ) (d : Desk P) : Type 0 where
    pub me : d.me ≡ k
    pub ranks : length d.outgoing.items ≡ n
    pub nothing_posted : (j : ℕ) → j < n → posted_to d j ≡ []
    pub nothing_taken : (j : ℕ) → j < n → taken_from d j ≡ []
    pub room : (j : ℕ) → j < n → j ≢ k → (room_to d j ≡ c) × (capacity_to d j ≡ c)

  -- each desk has its row and its column
  abbrev pub HaveLanes : List (Desk P) → List (Vec (Option (Poster P)) Global) → List (Vec (Option (Taker P)) Global) → Type 0
  HaveLanes desks rows columns =
      (k : ℕ) (a : Desk P) (r : Vec (Option (Poster P)) Global) (d : Vec (Option (Taker P)) Global) → k < length desks
      → ((slice_index_or desks k a).me ≡ k)
      × ((slice_index_or desks k a).outgoing ≡ slice_index_or rows k r)
      × ((slice_index_or desks k a).incoming ≡ slice_index_or columns k d)

  -- the same desks, on which nothing more was posted or taken
  pub record SameDesks (old new : List (Desk P)) : Type 0 where
    pub count : length new ≡ length old
    pub identities : map identity new ≡ map identity old
    pub each : (k : ℕ) (a : Desk P) → k < length old → Keeps (slice_index_or old k a) (slice_index_or new k a)

  -- what was taken on the lane from one desk to another is a prefix of what was posted there
  abbrev pub IsSettled : Desk P → Desk P → ℕ → ℕ → Type 0
  IsSettled sender receiver from to = IsPrefix (taken_from receiver from) (posted_to sender to)

  -- the same for both lanes between two of the desks
  abbrev pub IsPairSettled : List (Desk P) → ℕ → ℕ → Type 0
  IsPairSettled desks low high =
      (a b : Desk P)
      → IsSettled (slice_index_or desks low a) (slice_index_or desks high b) low high
      × IsSettled (slice_index_or desks high b) (slice_index_or desks low a) high low

  -- the letters that the first rank's desk posted to the second rank, oldest first; none if there is no such desk
  abbrev pub posted_in : List (Desk P) → ℕ → ℕ → List (Letter P)
  posted_in desks from to = option_map_or (λ d. posted_to d to) (slice_get desks from) []

  -- how many letters the lane from the first rank's desk to the second rank holds; 0 if there is no such desk
  abbrev pub capacity_in : List (Desk P) → ℕ → ℕ → ℕ
  capacity_in desks from to = option_map_or (λ d. capacity_to d to) (slice_get desks from) 0

  -- the letters that the second rank's desk took from the first rank, oldest first
  abbrev pub taken_in : List (Desk P) → ℕ → ℕ → List (Letter P)
  taken_in desks from to = option_map_or (λ d. taken_from d from) (slice_get desks to) []

  -- what was taken on a lane is a prefix of what was posted there, and all of it if the close mark was taken
  pub record IsSettledLane (posted taken : List (Letter P)) : Type 0 where
    pub prefix : IsPrefix taken posted
    pub whole : ends_closed taken ≡ true → taken ≡ posted

  -- this holds of each lane between two of these desks
  abbrev pub AreSettledLanes : List (Desk P) → Type 0
  AreSettledLanes desks =
      (from to : ℕ) → from < length desks → to < length desks → from ≢ to
      → IsSettledLane (posted_in desks from to) (taken_in desks from to)
