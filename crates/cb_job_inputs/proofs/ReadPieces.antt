-- What is read of the pieces of a text.
use Rattle.std.proofs.Common.{◌≡◌, ℕ, ◌+◌, ◌<◌, List, [], ◌++◌, length, get_or, arith, sym, ap, subst, ◌∙◌, refl, length-append, Option, None, Some}
use Rattle.std.specs.Prelude.{All, IfSome}
use Rattle.std.proofs.lemmas.List.{get_or_append_left, get_or-append_right}
use Rattle.std.proofs.lemmas.List.Elements.{All-get_or}
use Rattle.cb_semirings.specs.Arithmetic.{Arithmetic}
use Rattle.cb_layout.specs.Distributed.{Distributed}
use Rattle.cb_matrix.specs.Sparse.{Sparse}
use Rattle.cb_market_lines.specs.declared.header.Header.{Header}
use Rattle.cb_market_lines.specs.declared.size.Size.{Size}
use Rattle.cb_market_lines.specs.Reads.{Reads}
use Rattle.cb_market.specs.Pieces.{Part, IsPart, IsOpening, MayFollow}
use Rattle.cb_market.proofs.PartedTexts.{part_reads}
use Rattle.cb_job_inputs.specs.TextPieces.{Reading, AreCut, AreInOrder, IsCutOf, IsMatrixOf, IsRead, in_a_row}
use Rattle.cb_job_inputs.proofs.CutTexts.{only_row}

-- a text that was opened, and its entries in pieces
pub cut_of : (s : Arithmetic) (whole text : List ℕ) (header : Header) (size : Size) (line : ℕ) (entries more : List ℕ) (side : ℕ) (pieces : List (List ℕ)) → whole ≡ text ++ more → IsOpening s text header size line entries
    → MayFollow text entries more → in_a_row pieces ≡ entries ++ more → AreCut pieces → IsCutOf s whole side (record { header = header; size = size; side = side }) pieces
cut_of s whole text header size line entries more side pieces all opening follows row ends = record {
  ends = ends;
  reads = λ m w.
      let part : IsPart s header size.shape side (entries ++ more) w.0 = subst (λ t. IsPart s header size.shape side t w.0) row w.1 in
      subst (λ (t : List ℕ). Reads s t m.matrix) (sym all)
      (subst (λ (x : Sparse). Reads s (text ++ more) x) (sym (ap (λ (d : Distributed). d.matrix) w.3)) (part_reads s text header size line entries more side w.0 opening follows part w.2));
  on_grid = λ m w. ap (λ (d : Distributed). d.side) w.3 ∙ w.1.on_grid;
}

-- a matrix of a text that was cut is on its grid
pub some_side : (s : Arithmetic) (text : List ℕ) (side : ℕ) (reading : Reading) (pieces : List (List ℕ)) (o : Option Distributed) → IsCutOf s text side reading pieces → IfSome o (IsMatrixOf s reading pieces) → IfSome o (λ m. m.side ≡ side)
some_side s text side reading pieces None cut h = tt
some_side s text side reading pieces (Some m) cut h = cut.on_grid m h

-- places without pieces are in order
pub none_in_order : (s : Arithmetic) (reading : Reading) (pieces : List (List ℕ)) (places : List (Option Part)) → length places ≡ length pieces → All (λ (o : Option Part). o ≡ None) places → AreInOrder s reading pieces places
none_in_order s reading pieces places e none = record {
  count = e;
  each = λ n d o l. subst (λ x. IfSome x (IsRead s reading (get_or pieces n d))) (sym (All-get_or (λ (x : Option Part). x ≡ None) places n o (omega (arith, l, e)) none)) tt;
}

module _ (s : Arithmetic) (reading : Reading) (pieces : List (List ℕ)) (places : List (Option Part)) (order : AreInOrder s reading pieces places) where
  -- the piece in the only place
  pub only_read : (o : Option Part) → length pieces < 2 → 0 < length places → o ≡ get_or places 0 o → IfSome o (IsRead s reading (in_a_row pieces))
  only_read o few some e =
      let inside : 0 < length pieces = omega (arith, some, order.count) in
      subst (λ t. IfSome o (IsRead s reading t)) (sym (only_row pieces [] few inside))
      (subst (λ x. IfSome x (IsRead s reading (get_or pieces 0 []))) (sym e) (order.each 0 [] o inside))

  module _ (a b : List (List ℕ)) (pa pb : List (Option Part)) (cut : a ++ b ≡ pieces) (both : pa ++ pb ≡ places) (same : length pa ≡ length a) where
    count : length a + length b ≡ length pieces
    count = sym (length-append a b) ∙ ap length cut

    counts : length pa + length pb ≡ length places
    counts = sym (length-append pa pb) ∙ ap length both

    -- the first places are in order
    pub order_front : AreInOrder s reading a pa
    order_front = record {
      count = same;
      each = λ n d o l.
          subst (λ t. IfSome (get_or pa n o) (IsRead s reading t)) (sym (ap (λ xs. get_or xs n d) cut) ∙ get_or_append_left a b d n l)
          (subst (λ x. IfSome x (IsRead s reading (get_or pieces n d))) (sym (ap (λ xs. get_or xs n o) both) ∙ get_or_append_left pa pb o n (omega (arith, l, same))) (order.each n d o (omega (arith, l, count))));
    }

    -- and the last
    pub order_back : AreInOrder s reading b pb
    order_back = record {
      count = omega (arith, count, counts, same, order.count);
      each = λ n d o l.
          let k = length a + n in
          subst (λ t. IfSome (get_or pb n o) (IsRead s reading t)) (sym (ap (λ xs. get_or xs k d) cut) ∙ get_or-append_right a b (length a) k d refl (omega arith) ∙ ap (λ j. get_or b j d) (omega arith))
          (subst (λ x. IfSome x (IsRead s reading (get_or pieces k d))) (sym (ap (λ xs. get_or xs k o) both) ∙ get_or-append_right pa pb (length a) k o same (omega arith) ∙ ap (λ j. get_or pb j o) (omega arith)) (order.each k d o (omega (arith, l, count))));
    }
