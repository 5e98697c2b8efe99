-- The desks that are made from the rows and columns of new lanes.
use Rattle.std.proofs.Common.{◌≡◌, ◌≢◌, ℕ, ◌+◌, ◌<◌, ◌≤◌, List, [], ◌∷◌, ◌++◌, length, map, subst, length-append, ⊎_elim, Option, None, slice_index_or, sym, ◌∙◌, ap, arith}
use Rattle.std.proofs.lemmas.List.{get_or-map as get_or-map_within, length-map, get_or_append_left}
use Rattle.std.proofs.Math.ListN.{get_or-map}
use Rattle.std.proofs.Math.Seq.{get_or-append_seam}
use Rattle.std.proofs.lemmas.Bool.{cases_lt}
use Rattle.std.specs.declared.vec.Vec.{Vec}
use Rattle.std.specs.declared.alloc.Global.{Global}
use Rattle.cb_rings.specs.declared.ring_ends.Poster.{Poster}
use Rattle.cb_rings.specs.declared.ring_ends.Taker.{Taker}
use Rattle.cb_lanes.specs.declared.desk.Desk.{Desk}
use Rattle.cb_rings.specs.Ends.{AreNewLanes, AreRows, AreColumns, outgoing_ring, incoming_ring, sent_by, received_by, room_of, capacity_of, out_at, in_at}
use Rattle.cb_lanes.specs.Desks.{Identity, identity, identity_at, AreOfOneOpening, IsNewDesk, HaveLanes}

module _ {P : Type 0} (c : ℕ) (rows : List (Vec (Option (Poster P)) Global)) (columns : List (Vec (Option (Taker P)) Global)) (desks : List (Desk P))
    (row_count : length rows ≡ length desks) (column_count : length columns ≡ length desks)
    (wide : AreRows rows (length desks)) (high : AreColumns columns (length desks))
    (lanes : AreNewLanes c rows columns) (have : HaveLanes desks rows columns) where
  -- the identity at a place is that of the desk there
  identity_of : (a : Desk P) (k : ℕ) → k < length desks → identity_at (map identity desks) k ≡ identity (slice_index_or desks k a)
  identity_of a k below = get_or-map_within identity desks k a (record { me = 0; outgoing = []; incoming = [] }) below

  -- a desk posts on the ring of the lane in its row
  ring_out : (a : Desk P) (i j : ℕ) → i < length desks → slice_index_or (identity_at (map identity desks) i).outgoing j None ≡ outgoing_ring (out_at (slice_index_or desks i a).outgoing.items j)
  ring_out a i j below = ap (λ (x : Identity). slice_index_or x.outgoing j None) (identity_of a i below) ∙ get_or-map outgoing_ring (slice_index_or desks i a).outgoing.items j None

  -- a desk takes from the ring of the lane in its column
  ring_in : (a : Desk P) (i j : ℕ) → j < length desks → slice_index_or (identity_at (map identity desks) j).incoming i None ≡ incoming_ring (in_at (slice_index_or desks j a).incoming.items i)
  ring_in a i j below = ap (λ (x : Identity). slice_index_or x.incoming i None) (identity_of a j below) ∙ get_or-map incoming_ring (slice_index_or desks j a).incoming.items i None

  -- the lane between two of the desks is new
  lane_of : (a : Desk P) (i j : ℕ) → i < length desks → j < length desks
      → (outgoing_ring (out_at (slice_index_or desks i a).outgoing.items j) ≡ incoming_ring (in_at (slice_index_or desks j a).incoming.items i))
      × (sent_by (out_at (slice_index_or desks i a).outgoing.items j) ≡ [])
      × (received_by (in_at (slice_index_or desks j a).incoming.items i) ≡ [])
      × (i ≢ j → (room_of (out_at (slice_index_or desks i a).outgoing.items j) ≡ c) × (capacity_of (out_at (slice_index_or desks i a).outgoing.items j) ≡ c))
  lane_of a i j below_i below_j =
      let r = (slice_index_or desks i a).outgoing in
      let d = (slice_index_or desks j a).incoming in
      let er = (have i a r (slice_index_or desks i a).incoming below_i).1 in
      let ed = (have j a (slice_index_or desks j a).outgoing d below_j).2 in
      let l = lanes i j r d (omega arith) (omega arith) in
      rw (er, ed) (l.2, l.3, l.4, (λ apart. (l.5 apart, l.6 apart)))

  -- the desks are of one opening, with any desk for those past the end
  opened_with : (a : Desk P) → AreOfOneOpening (map identity desks)
  opened_with a = record {
    places = (λ k below.
        let inside : k < length desks = omega (arith, length-map desks (identity {P = P})) in
        ap (λ (x : Identity). x.me) (identity_of a k inside) ∙ (have k a (slice_index_or desks k a).outgoing (slice_index_or desks k a).incoming inside).0);
    ranks = (λ k below.
        let all = length-map desks (identity {P = P}) in
        let inside : k < length desks = omega arith in
        let r = (slice_index_or desks k a).outgoing in
        let d = (slice_index_or desks k a).incoming in
        let h = have k a r d inside in
        let out = ap (λ (x : Identity). length x.outgoing) (identity_of a k inside) ∙ length-map r.items outgoing_ring in
        let into = ap (λ (x : Identity). length x.incoming) (identity_of a k inside) ∙ length-map d.items incoming_ring in (
          out ∙ ap (λ (v : Vec (Option (Poster P)) Global). length v.items) h.1 ∙ wide k r (omega arith) ∙ sym all,
          into ∙ ap (λ (v : Vec (Option (Taker P)) Global). length v.items) h.2 ∙ high k d (omega arith) ∙ sym all,
        ));
    rings = (λ i j below_i below_j.
        let inside_i : i < length desks = omega (arith, length-map desks (identity {P = P})) in
        let inside_j : j < length desks = omega (arith, length-map desks (identity {P = P})) in
        ring_out a i j inside_i ∙ (lane_of a i j inside_i inside_j).0 ∙ sym (ring_in a i j inside_j));
  }

  -- each of the desks is new
  pub new_desk : (a : Desk P) (k : ℕ) → k < length desks → IsNewDesk c (length desks) k (slice_index_or desks k a)
  new_desk a k below =
      let r = (slice_index_or desks k a).outgoing in
      let h = have k a r (slice_index_or desks k a).incoming below in
      record {
        me = h.0;
        ranks = ap (λ (v : Vec (Option (Poster P)) Global). length v.items) h.1 ∙ wide k r (omega arith);
        nothing_posted = (λ j inside. (lane_of a k j below inside).1);
        nothing_taken = (λ j inside. (lane_of a j k inside below).2);
        room = (λ j inside apart. (lane_of a k j below inside).3 (λ same. apart (sym same)));
      }

module _ {P : Type 0} where
  -- so the desks are of one opening
  pub are_of_one_opening : (c : ℕ) (rows : List (Vec (Option (Poster P)) Global)) (columns : List (Vec (Option (Taker P)) Global)) (desks : List (Desk P))
      → length rows ≡ length desks → length columns ≡ length desks → AreRows rows (length desks) → AreColumns columns (length desks) → AreNewLanes c rows columns → HaveLanes desks rows columns → AreOfOneOpening (map identity desks)
  are_of_one_opening c rows columns [] row_count column_count wide high lanes have =
      record { places = (λ k below. absurd (omega arith)); ranks = (λ k below. absurd (omega arith)); rings = (λ i j below_i below_j. absurd (omega arith)) }
  are_of_one_opening c rows columns (a ∷ others) row_count column_count wide high lanes have = opened_with c rows columns (a ∷ others) row_count column_count wide high lanes have a

  -- one more desk gets its row and its column
  pub HaveLanes-step : (desks : List (Desk P)) (x : Desk P) (rows : List (Vec (Option (Poster P)) Global)) (columns : List (Vec (Option (Taker P)) Global))
      → x.me ≡ length desks
      → ((r : Vec (Option (Poster P)) Global) → x.outgoing ≡ slice_index_or rows (length desks) r)
      → ((d : Vec (Option (Taker P)) Global) → x.incoming ≡ slice_index_or columns (length desks) d)
      → HaveLanes desks rows columns
      → HaveLanes (desks ++ x ∷ []) rows columns
  HaveLanes-step desks x rows columns me row column h k a r d below =
      let under : k < length desks + 1 = omega (arith, length-append desks (x ∷ [])) in
      let Q : ℕ → Type 0 = λ (m : ℕ).
      ((slice_index_or (desks ++ x ∷ []) m a).me ≡ m)
      × ((slice_index_or (desks ++ x ∷ []) m a).outgoing ≡ slice_index_or rows m r)
      × ((slice_index_or (desks ++ x ∷ []) m a).incoming ≡ slice_index_or columns m d)
      in
      ⊎_elim
      (λ (i : k < length desks). rw (get_or_append_left desks (x ∷ []) a k i) (h k a r d i))
      (λ (i : length desks ≤ k).
      let at_end : length desks ≡ k = omega arith in
      subst Q at_end (rw (get_or-append_seam desks x [] a) (me, row r, column d)))
      (cases_lt k (length desks))
