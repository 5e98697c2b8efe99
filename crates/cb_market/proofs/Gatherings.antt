-- Gathered entries, appended to others.
use Rattle.std.proofs.Common.{◌≡◌, ℕ, Bool, true, false, subst, ◌∙◌, ◌+◌, ◌^◌, ◌<◌, ◌≤◌, min, max, List, [], ◌∷◌, ◌++◌, inl, inr, ⊎_elim, sym, arith}
use Rattle.std.specs.Prelude.{All}
use Rattle.std.proofs.lemmas.Bool.{cases_lt, false≢true}
use Rattle.cb_semirings.specs.Arithmetic.{Arithmetic, IsValue}
use Rattle.std.proofs.lemmas.List.Elements.{All-append, All-push, All-weaker}
use Rattle.cb_matrix.specs.declared.Entry.{Entry}
use Rattle.cb_matrix.specs.Sparse.{Extent, Sparse, IsInside, IsBefore}
use Rattle.cb_dcsc.specs.Columns.{with_entry, with_entries}
use Rattle.cb_market.specs.Gathered.{place_number, IsGathered}

-- an entry with a smaller number comes before one with a row below 2^32
before_by_number : (d e : Entry) → e.row < 2 ^ 32 → place_number d < place_number e → IsBefore d e
before_by_number d e l h = ⊎_elim (λ (k : d.column < e.column). inl k) (λ (k : e.column ≤ d.column). inr (omega arith, omega arith)) (cases_lt d.column e.column)

-- all have at least the lesser first number
pub above_both : (es fs : List Entry) (f g : ℕ) → All (λ e. f ≤ place_number e) es → All (λ e. g ≤ place_number e) fs → All (λ e. min f g ≤ place_number e) (es ++ fs)
above_both es fs f g a b =
    All-append (λ e. min f g ≤ place_number e) es fs
    (All-weaker (λ e. f ≤ place_number e) (λ e. min f g ≤ place_number e) (λ e h. omega (arith, h)) es a)
    (All-weaker (λ e. g ≤ place_number e) (λ e. min f g ≤ place_number e) (λ e h. omega (arith, h)) fs b)

-- and below the greater bound
pub below_both : (es fs : List Entry) (f g : ℕ) → All (λ e. place_number e < f) es → All (λ e. place_number e < g) fs → All (λ e. place_number e < max f g) (es ++ fs)
below_both es fs f g a b =
    All-append (λ e. place_number e < max f g) es fs
    (All-weaker (λ e. place_number e < f) (λ e. place_number e < max f g) (λ e h. omega (arith, h)) es a)
    (All-weaker (λ e. place_number e < g) (λ e. place_number e < max f g) (λ e h. omega (arith, h)) fs b)

-- blocks with the entries of others appended, from the lesser first number up to below the greater bound
pub gathered_both : (s : Arithmetic) (m n both : Sparse) (list others : List Entry) (ascends more : Bool) (f g first b d bound : ℕ) → IsGathered s m list ascends f b → IsGathered s n others more g d → ascends ≡ true
    → both ≡ with_entries m n.entries → first ≡ min f g → bound ≡ max b d → IsGathered s both list true first bound
gathered_both s m n both list others ascends more f g first b d bound x y up is least greatest =
    subst (λ (z : Sparse). IsGathered s z list true first bound) (sym is) (record {
      in_blocks = λ _. x.in_blocks up;
      in_list = λ e. absurd (false≢true (sym e));
      above = rw least (above_both m.entries n.entries f g x.above y.above);
      below = rw greatest (below_both m.entries n.entries b d x.below y.below);
      inside = x.inside;
      values = x.values;
    })

-- an entry whose number isn't below a bound comes after those whose number is
pub all_earlier : (es : List Entry) (bound place : ℕ) (e : Entry) → place ≡ place_number e → All (λ d. place_number d < bound) es → bound ≤ place → e.row < 2 ^ 32 → All (λ d. IsBefore d e) es
all_earlier es bound place e is below order small =
    All-weaker (λ d. place_number d < bound) (λ d. IsBefore d e) (λ d less. before_by_number d e small (omega (arith, less, order, is))) es below

-- blocks with one more entry, whose number isn't below the bound
pub gathered_one : (s : Arithmetic) (m both : Sparse) (list : List Entry) (ascends : Bool) (first bound least place : ℕ) (e : Entry) → IsGathered s m list ascends first bound → ascends ≡ true → both ≡ with_entry m e
    → place ≡ place_number e → bound ≤ place → least ≡ min first place → IsGathered s both list ascends least (place + 1)
gathered_one s m both list ascends first bound least place e x up is number order least_is =
    subst (λ (z : Sparse). IsGathered s z list ascends least (place + 1)) (sym is) (record {
      in_blocks = x.in_blocks;
      in_list = λ down. absurd (false≢true (sym down ∙ up));
      above = rw least_is (All-push (λ d. min first place ≤ place_number d) m.entries e (All-weaker (λ d. first ≤ place_number d) (λ d. min first place ≤ place_number d) (λ d h. omega (arith, h)) m.entries x.above) (omega (arith, number)));
      below = All-push (λ d. place_number d < place + 1) m.entries e (All-weaker (λ d. place_number d < bound) (λ d. place_number d < place + 1) (λ d h. omega (arith, h, order)) m.entries x.below) (omega (arith, number));
      inside = x.inside;
      values = x.values;
    })

-- one more entry in the list
pub gathered_listed : (s : Arithmetic) (m : Sparse) (list more : List Entry) (ascends : Bool) (first bound : ℕ) (e : Entry) → IsGathered s m list ascends first bound → ascends ≡ false → more ≡ list ++ e ∷ []
    → IsInside m.shape e → IsValue s e.value → IsGathered s m more ascends first bound
gathered_listed s m list more ascends first bound e x down is inside value = record {
  in_blocks = λ up. absurd (false≢true (sym down ∙ up));
  in_list = x.in_list;
  above = x.above;
  below = x.below;
  inside = rw is (All-push (IsInside m.shape) list e x.inside inside);
  values = rw is (All-push (λ d. IsValue s d.value) list e x.values value);
}

-- all entries in the list
pub gathered_moved : (s : Arithmetic) (m : Sparse) (shape : Extent) (list : List Entry) (first bound : ℕ) → m.shape ≡ shape → m.entries ≡ [] → All (IsInside shape) list → All (λ e. IsValue s e.value) list → IsGathered s m list false first bound
gathered_moved s m shape list first bound same none inside values = record {
  in_blocks = λ up. absurd (false≢true up);
  in_list = λ _. none;
  above = rw none (λ k d h. absurd (omega (arith, h)));
  below = rw none (λ k d h. absurd (omega (arith, h)));
  inside = rw same inside;
  values = values;
}
