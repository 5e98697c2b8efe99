-- Which ring an end is of.
use Rattle.std.specs.Prelude.{◌≡◌, List, [], ◌∷◌, map, Option, Some, None}
use denote.RawPtr.{Ptr}
use Rattle.std.specs.declared.alloc.Global.{Global}
use Rattle.rtrb.specs.Shared.{Names}
use Rattle.rtrb.specs.Ring.{sent, received, IsPair}
use Rattle.rtrb.specs.declared.end.End.{End}
use Rattle.rtrb.specs.declared.producer.Producer.{Producer}
use Rattle.rtrb.specs.declared.consumer.Consumer.{Consumer}

-- what tells a ring from every other
abbrev pub RingName : Type 0
RingName = Ptr × Ptr × Names × Global

module _ {T P : Type 0} where
  abbrev pub name_of : End T Global P → RingName
  name_of e = (e.words, e.slots, e.names, e.heap)

  -- the ring that this end puts items in
  abbrev pub put_ring : Producer T Global P → RingName
  put_ring p = name_of p.end

  -- the ring that this end takes items out of
  abbrev pub taken_ring : Consumer T Global P → RingName
  taken_ring c = name_of c.end

  -- both ends of a ring, and nothing was put in
  abbrev pub IsNewRing : Producer T Global P × Consumer T Global P → Type 0
  IsNewRing x = IsPair x.0 x.1 × (sent x.0 ≡ []) × (received x.1 ≡ [])

  abbrev pub AreNewRings : List (Producer T Global P × Consumer T Global P) → Type 0
  AreNewRings [] = Unit {0}
  AreNewRings (x ∷ xs) = IsNewRing x × AreNewRings xs

  -- which rings they are
  abbrev pub names_of : List (Producer T Global P × Consumer T Global P) → List RingName
  names_of xs = map (λ x. put_ring x.0) xs

-- the last item of a list
abbrev pub last_item : {X : Type 0} → List X → Option X
last_item [] = None
last_item (x ∷ []) = Some x
last_item (x ∷ y ∷ ys) = last_item (y ∷ ys)
