-- Comparing both ends of each lane, pair by pair.
use Rattle.std.proofs.Common.{◌≡◌, ◌≢◌, ℕ, ◌+◌, ◌-◌, ◌<◌, ◌≤◌, List, [], ◌∷◌, ◌++◌, length, map, Option, Some, None, true, false, take, drop, slice_index_or, slice_set, slice_get, refl, sym, ◌∙◌, ap, subst, arith, length-append, ⊎_elim}
use Rattle.std.proofs.lemmas.List.{get_or-map, get_or_append_left, get_or-append-add, get_or-set_other, get_or_default, length-set, length-map}
use Rattle.std.proofs.lemmas.Grind.{get_or-set_at}
use Rattle.std.proofs.lemmas.Option.{slice_get-get_or, slice_get_past}
use Rattle.std.specs.Option.{option_map_or}
use Rattle.std.proofs.lemmas.Bool.{cases_lt, cases_order}
use Rattle.std.proofs.Math.Seq.{map-set_same, take-append_seam, take-length}
use Rattle.std.proofs.lemmas.List.{map-append}
use Rattle.cb_lanes.specs.declared.desk.Desk.{Desk}
use Rattle.cb_lanes.specs.Desks.{Identity, identity, identity_at, AreOfOneOpening, AreLinked, Keeps, SameDesks, IsSettled, IsPairSettled, IsSettledLane, posted_to, taken_from, posted_in, taken_in, capacity_to, capacity_in}
use Rattle.cb_rings.specs.declared.ring_ends.Poster.{Poster}
use Rattle.cb_rings.specs.Ends.{sent_by, outgoing_ring}
use Rattle.cb_letters.specs.declared.Letter.{Letter}
use Rattle.cb_letters.specs.Posted.{ends_closed, NothingAfterClose}
use mathlib.Core.List.{IsPrefix}

-- two desks of one opening hold the ends of the lanes between them
linked : (ids : List Identity) (low high : ℕ) (A B : Identity) → identity_at ids low ≡ A → identity_at ids high ≡ B → AreOfOneOpening ids → low < high → high < length ids → AreLinked A B
linked ids low high A B eA eB one order inside =
    let low_inside : low < length ids = omega arith in
    let mA : A.me ≡ low = sym (ap (λ (x : Identity). x.me) eA) ∙ one.places low low_inside in
    let mB : B.me ≡ high = sym (ap (λ (x : Identity). x.me) eB) ∙ one.places high inside in
    let wA = rw eA at (one.ranks low low_inside) in
    let wB = rw eB at (one.ranks high inside) in
    record {
      apart = (λ same. absurd (omega arith));
      there = rw (mA, mB) (rw (eA, eB) at (one.rings low high low_inside inside));
      back = rw (mA, mB) (rw (eA, eB) at (one.rings high low inside low_inside));
      inside_a = (omega arith, omega arith);
      inside_b = (omega arith, omega arith);
    }

-- no test is both false and true
false_not_true : false ≡ true → ⊥
false_not_true e = cc

module _ {P : Type 0} where
  -- the same if the list of desks is cut between the two
  pub pair_linked : (front back : List (Desk P)) (low : ℕ) (a b : Desk P) → AreOfOneOpening (map identity (front ++ back)) → low < length front → 0 < length back
      → AreLinked (identity (slice_index_or front low a)) (identity (slice_index_or back 0 b))
  pair_linked front back low a b one order some =
      let all = length-append front back in
      let ids = map (identity {P = P}) (front ++ back) in
      let none : Identity = record { me = 0; outgoing = []; incoming = [] } in
      let count : length ids ≡ length front + length back = simp (length-map, length-append) refl in
      let first : identity_at ids low ≡ identity (slice_index_or front low a) =
      get_or-map identity (front ++ back) low a none (omega arith) ∙ ap identity (get_or_append_left front back a low order) in
      let second : identity_at ids (length front + 0) ≡ identity (slice_index_or back 0 b) =
      get_or-map identity (front ++ back) (length front + 0) b none (omega arith) ∙ ap identity (get_or-append-add front back 0 b) in
      linked ids low (length front + 0) (identity (slice_index_or front low a)) (identity (slice_index_or back 0 b)) first second one (omega arith) (omega arith)

  -- a desk on which nothing happens keeps its letters
  pub Keeps-refl : (d : Desk P) → Keeps d d
  Keeps-refl d = (refl, (λ j. (refl, (omega arith), refl)), λ j. refl)

  -- and so does one on which twice nothing happens
  pub Keeps-trans : (a b c : Desk P) → Keeps a b → Keeps b c → Keeps a c
  Keeps-trans a b c p q = (q.0 ∙ p.0, (λ j. let first = p.1 j in let then = q.1 j in (then.0 ∙ first.0, (let l = first.1 in let m = then.1 in omega arith), then.2 ∙ first.2)), λ j. q.2 j ∙ p.2 j)

  -- and the same as desks that are the same as those
  pub SameDesks-trans : (xs ys zs : List (Desk P)) → SameDesks xs ys → SameDesks ys zs → SameDesks xs zs
  SameDesks-trans xs ys zs p q = record { count = q.count ∙ p.count; identities = q.identities ∙ p.identities; each = (λ k a below. Keeps-trans (slice_index_or xs k a) (slice_index_or ys k a) (slice_index_or zs k a) (p.each k a below) (q.each k a (rw p.count below))) }

  -- desks stay the same if one of them keeps its letters
  SameDesks-set : (xs : List (Desk P)) (i : ℕ) (x : Desk P) → i < length xs → ((a : Desk P) → Keeps (slice_index_or xs i a) x) → SameDesks xs (slice_set xs i x)
  SameDesks-set xs i x inside same =
      record {
        count = length-set xs i x;
        identities = map-set_same identity xs i x x (same x).0;
        each = (λ k a below.
            let Q : ℕ → Type 0 = λ (m : ℕ). Keeps (slice_index_or xs m a) (slice_index_or (slice_set xs i x) m a) in
            let other : k ≢ i → Q k = λ apart. rw (get_or-set_other xs i k x a apart) (Keeps-refl (slice_index_or xs k a)) in
            ⊎_elim
            (λ (e : k ≡ i). subst Q (sym e) (rw (get_or-set_at xs i i x a refl inside) (same a)))
            (λ w. other (λ e. ⊎_elim (λ (h : k < i). absurd (omega arith)) (λ (h : i < k). absurd (omega arith)) w))
            (cases_order k i));
      }

  -- desks stay the same if both parts of their list do
  SameDesks-append : (xs ys xs' ys' : List (Desk P)) → SameDesks xs xs' → SameDesks ys ys' → SameDesks (xs ++ ys) (xs' ++ ys')
  SameDesks-append xs ys xs' ys' p q =
      record {
        count = simp (length-append, p.count, q.count) refl;
        identities = simp (map-append, p.identities, q.identities) refl;
        each = (λ k a below.
            let all = length-append xs ys in
            let Q : ℕ → Type 0 = λ (m : ℕ). Keeps (slice_index_or (xs ++ ys) m a) (slice_index_or (xs' ++ ys') m a) in
            ⊎_elim
            (λ (h : k < length xs). rw (get_or_append_left xs ys a k h, get_or_append_left xs' ys' a k (rw p.count h)) (p.each k a h))
            (λ (h : length xs ≤ k).
            let rest : length xs + (k - length xs) ≡ k = omega arith in
            let there = rw p.count at (get_or-append-add xs' ys' (k - length xs) a) in
            subst Q rest (rw (get_or-append-add xs ys (k - length xs) a, there) (q.each (k - length xs) a (omega arith))))
            (cases_lt k (length xs)));
      }

  -- desks stay the same if one desk of each part keeps its letters
  pub pair_same : (front back : List (Desk P)) (low : ℕ) (x y : Desk P) → low < length front → 0 < length back
      → ((a : Desk P) → Keeps (slice_index_or front low a) x) → ((b : Desk P) → Keeps (slice_index_or back 0 b) y)
      → SameDesks (front ++ back) (slice_set front low x ++ slice_set back 0 y)
  pair_same front back low x y order some first second =
      SameDesks-append front back (slice_set front low x) (slice_set back 0 y) (SameDesks-set front low x order first) (SameDesks-set back 0 y some second)

  -- if two desks are settled, so is their pair in the whole list
  pub pair_settled : (front back : List (Desk P)) (low : ℕ) (X Y : Desk P) → AreOfOneOpening (map identity (front ++ back)) → low < length front → 0 < length back
      → X ≡ slice_index_or front low X → Y ≡ slice_index_or back 0 Y
      → IsSettled X Y X.me Y.me → IsSettled Y X Y.me X.me
      → IsPairSettled (front ++ back) low (length front)
  pair_settled front back low X Y one order some isX isY there back_again a b =
      let all = length-append front back in
      let ids = map (identity {P = P}) (front ++ back) in
      let none : Identity = record { me = 0; outgoing = []; incoming = [] } in
      let count : length ids ≡ length front + length back = simp (length-map, length-append) refl in
      let end : length front + 0 ≡ length front = omega arith in
      let eX : slice_index_or (front ++ back) low a ≡ X = get_or_append_left front back a low order ∙ get_or_default front low a X order ∙ sym isX in
      let eY : slice_index_or (front ++ back) (length front) b ≡ Y = rw end at (get_or-append-add front back 0 b) ∙ get_or_default back 0 b Y some ∙ sym isY in
      let mX : X.me ≡ low =
      sym (ap (λ (x : Identity). x.me) (get_or-map identity (front ++ back) low a none (omega arith) ∙ ap identity eX)) ∙ one.places low (omega arith) in
      let mY : Y.me ≡ length front =
      sym (ap (λ (x : Identity). x.me) (get_or-map identity (front ++ back) (length front) b none (omega arith) ∙ ap identity eY)) ∙ one.places (length front) (omega arith) in
      rw (eX, eY) (rw (mX, mY) at there, rw (mX, mY) at back_again)

  -- what is settled for desks is settled for the same desks
  pub settled_before : (xs ys : List (Desk P)) (low high : ℕ) → SameDesks xs ys → low < length xs → high < length xs → IsPairSettled ys low high → IsPairSettled xs low high
  settled_before xs ys low high same below_low below_high h a b =
      let first = same.each low a below_low in
      let second = same.each high b below_high in
      rw (← second.2 low, ← (first.1 high).0, ← first.2 high, ← (second.1 low).0) (h a b)

  -- the lanes both ways between every two desks are all lanes
  all_settled : (xs : List (Desk P)) → ((low high : ℕ) → low < high → high < length xs → IsPairSettled xs low high)
      → (from to : ℕ) (a b : Desk P) → from < length xs → to < length xs → from ≢ to → IsSettled (slice_index_or xs from a) (slice_index_or xs to b) from to
  all_settled xs h from to a b below_from below_to apart =
      ⊎_elim
      (λ (e : from ≡ to). absurd (apart e))
      (λ w. ⊎_elim (λ (o : from < to). (h from to o below_to a b).0) (λ (o : to < from). (h to from o below_from b a).1) w)
      (cases_order from to)

  -- nothing follows a close mark that was posted
  nothing_after : (lane : Option (Poster P)) → NothingAfterClose (sent_by lane)
  nothing_after None = λ k below. absurd (omega arith)
  nothing_after (Some lane) = lane.ended

  -- if the close mark was taken, and nothing was posted after it, everything was taken
  whole_at_close : (xs ys : List (Letter P)) → IsPrefix xs ys → ends_closed xs ≡ true → NothingAfterClose ys → xs ≡ ys
  whole_at_close xs ys (rest, joined) closed nothing =
      let size = simp length-append at (ap length joined) in
      let front : take (length xs) ys ≡ xs = rw (← joined) (take-append_seam xs rest) in
      ⊎_elim
      (λ (h : length xs < length ys). absurd (false_not_true (sym (nothing (length xs) h) ∙ ap ends_closed front ∙ closed)))
      (λ (h : length ys ≤ length xs).
      let all : length xs ≡ length ys = omega arith in
      sym front ∙ rw all (take-length ys))
      (cases_lt (length xs) (length ys))

  -- the lane between two desks of a list, by their places
  settled_lane_of : (xs : List (Desk P)) (from to : ℕ) (p q : Desk P) → slice_get xs from ≡ Some p → slice_get xs to ≡ Some q → IsSettled p q from to → IsSettledLane (posted_in xs from to) (taken_in xs from to)
  settled_lane_of xs from to p q sender receiver h =
      rw (sender, receiver) (record { prefix = h; whole = (λ closed. whole_at_close (taken_from q from) (posted_to p to) h closed (nothing_after (slice_index_or p.outgoing.items to None))) })

  -- so every lane is settled
  pub settled_lane : (xs : List (Desk P)) → ((low high : ℕ) → low < high → high < length xs → IsPairSettled xs low high)
      → (from to : ℕ) → from < length xs → to < length xs → from ≢ to → IsSettledLane (posted_in xs from to) (taken_in xs from to)
  settled_lane [] h from to below_from below_to apart = absurd (omega arith)
  settled_lane (a ∷ xs) h from to below_from below_to apart =
      settled_lane_of (a ∷ xs) from to (slice_index_or (a ∷ xs) from a) (slice_index_or (a ∷ xs) to a) (slice_get-get_or (a ∷ xs) from a below_from) (slice_get-get_or (a ∷ xs) to a below_to)
      (all_settled (a ∷ xs) h from to a a below_from below_to apart)

  abbrev posted_of : Option (Desk P) → ℕ → List (Letter P)
  posted_of o to = option_map_or (λ d. posted_to d to) o []

  abbrev taken_of : Option (Desk P) → ℕ → List (Letter P)
  taken_of o from = option_map_or (λ d. taken_from d from) o []

  abbrev capacity_at : Option (Desk P) → ℕ → ℕ
  capacity_at o to = option_map_or (λ d. capacity_to d to) o 0

  -- the same desks posted and took the same letters at one place, over the same lanes
  same_at : (xs ys : List (Desk P)) (a : Desk P) → SameDesks xs ys → (k j : ℕ)
      → (posted_of (slice_get ys k) j ≡ posted_of (slice_get xs k) j) × (taken_of (slice_get ys k) j ≡ taken_of (slice_get xs k) j) × (capacity_at (slice_get ys k) j ≡ capacity_at (slice_get xs k) j)
  same_at xs ys a same k j =
      ⊎_elim
      (λ (h : k < length xs).
      let old = slice_get-get_or xs k a h in
      let new = slice_get-get_or ys k a (rw same.count h) in
      let each = same.each k a h in
      rw (old, new) ((each.1 j).0, each.2 j, (each.1 j).2))
      (λ (h : length xs ≤ k).
      let old = slice_get_past xs k h in
      let new = slice_get_past ys k (rw same.count h) in
      rw (old, new) (refl, refl, refl))
      (cases_lt k (length xs))

  -- the same desks posted and took the same letters, over the same lanes
  pub same_lists : (xs ys : List (Desk P)) → SameDesks xs ys → (from to : ℕ)
      → (posted_in ys from to ≡ posted_in xs from to) × (taken_in ys from to ≡ taken_in xs from to) × (capacity_in ys from to ≡ capacity_in xs from to)
  same_lists [] [] same from to = (refl, refl, refl)
  same_lists [] (b ∷ ys) same from to = absurd (let size = same.count in omega arith)
  same_lists (a ∷ xs) ys same from to =
      let here = same_at (a ∷ xs) ys a same from to in
      (here.0, (same_at (a ∷ xs) ys a same to from).1, here.2)

  -- each desk is at the place of its number, with a lane for each rank
  at_place : (xs : List (Desk P)) → AreOfOneOpening (map identity xs) → (k : ℕ) (a : Desk P) → k < length xs
      → ((slice_index_or xs k a).me ≡ k) × (length (slice_index_or xs k a).outgoing.items ≡ length xs)
  at_place xs one k a below =
      let count : length (map (identity {P = P}) xs) ≡ length xs = length-map xs (identity {P = P}) in
      let none : Identity = record { me = 0; outgoing = []; incoming = [] } in
      let here : identity_at (map identity xs) k ≡ identity (slice_index_or xs k a) = get_or-map identity xs k a none below in
      let inside : k < length (map (identity {P = P}) xs) = omega arith in (
        sym (ap (λ (x : Identity). x.me) here) ∙ one.places k inside,
        sym (ap (λ (x : Identity). length x.outgoing) here ∙ length-map (slice_index_or xs k a).outgoing.items outgoing_ring) ∙ (one.ranks k inside).0 ∙ count,
      )

  -- the same for desks that are the same as those
  pub at_places : (xs ys : List (Desk P)) → AreOfOneOpening (map identity xs) → SameDesks xs ys → (k : ℕ) (a : Desk P) → k < length ys
      → ((slice_index_or ys k a).me ≡ k) × (length (slice_index_or ys k a).outgoing.items ≡ length ys)
  at_places xs ys one same = at_place ys (rw same.identities one)

  -- a slice that was borrowed whole is what the borrower left
  pub lent_whole : (xs ys : List (Desk P)) (n : ℕ) → n ≡ length xs → length ys ≡ length xs → take n (ys ++ drop (length ys) xs) ≡ ys
  lent_whole xs ys n size same = rw (size, ← same) (take-append_seam ys (drop (length ys) xs))
