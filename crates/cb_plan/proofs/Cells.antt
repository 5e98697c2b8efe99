-- Tables, read and written.
use Rattle.std.proofs.Common.{◌≡◌, ◌≢◌, ℕ, ◌<◌, false, List, [], length, get_or, set, replicate, zero, suc, refl, ap, ◌∙◌, arith}
use Rattle.std.specs.Prelude.{None, ◌==◌, ◌&&◌, if◌then◌else◌}
use Rattle.std.proofs.lemmas.Bool.Decides.{nat_tests}
use Rattle.std.proofs.lemmas.List.{length-set, get_or-set_same, get_or-set_other, get_or-replicate, length-replicate}
use Rattle.cb_plan.specs.PlanTables.{cell, cell_set, IsTable}
use Rattle.cb_plan.specs.Checks.{CheckState, IsBlank, slots_in, lanes_in}
use Rattle.cb_plan.proofs.Effects.{split}

-- a table with one place changed is one of the same size
pub set_is_table : {X : Type 0} (height width : ℕ) (t : List (List X)) (r n : ℕ) (x : X) → IsTable height width t → r < height → IsTable height width (cell_set t r n x)
set_is_table height width t r n x is l = record {
  rows = length-set t r (set (get_or t r []) n x) ∙ is.rows;
  cols = λ q m. split (q == r)
      (λ u.
      let e : q ≡ r = grind (arith, nat_tests) in
      let inside : r < length t = let h = is.rows in omega arith in
      rw e (ap length (get_or-set_same t r (set (get_or t r []) n x) [] inside) ∙ length-set (get_or t r []) n x ∙ is.cols r l))
      (λ u.
      let ne : q ≢ r = grind (arith, nat_tests) in
      ap length (get_or-set_other t r q (set (get_or t r []) n x) [] ne) ∙ is.cols q m);
}

-- what stands in a table of which one place was set
pub cell_after_set : {X : Type 0} (blank : X) (height width : ℕ) (t : List (List X)) (r n : ℕ) (x : X) → IsTable height width t → r < height → n < width → (q k : ℕ) →
    cell blank (cell_set t r n x) q k ≡ (if r == q && n == k then x else cell blank t q k)
cell_after_set blank height width t r n x is l m q k =
    let inside : r < length t = let h = is.rows in omega arith in
    let within : n < length (get_or t r []) = let h = is.cols r l in omega arith in
    split (r == q)
    (λ u.
    let e : q ≡ r = grind (arith, nat_tests) in
    rw (u, e) (ap (λ row. get_or row k blank) (get_or-set_same t r (set (get_or t r []) n x) [] inside) ∙
    split (n == k)
    (λ w. let f : k ≡ n = grind (arith, nat_tests) in rw (w, f) (get_or-set_same (get_or t r []) n x blank within))
    (λ w. let ne : k ≢ n = grind (arith, nat_tests) in rw w (get_or-set_other (get_or t r []) n k x blank ne))))
    (λ u. let ne : q ≢ r = grind (arith, nat_tests) in rw u (ap (λ row. get_or row k blank) (get_or-set_other t r q (set (get_or t r []) n x) [] ne)))

same_everywhere : {X : Type 0} (x : X) (n i : ℕ) → get_or (replicate n x) i x ≡ x
same_everywhere x zero i = refl
same_everywhere x (suc n) zero = refl
same_everywhere x (suc n) (suc i) = same_everywhere x n i

-- a table that has one value everywhere has it at each place
pub blank_cell : {X : Type 0} (x : X) (height width r n : ℕ) → cell x (replicate height (replicate width x)) r n ≡ x
blank_cell x zero width r n = refl
blank_cell x (suc height) width zero n = same_everywhere x width n
blank_cell x (suc height) width (suc r) n = blank_cell x height width r n

-- and is a table
pub blank_is_table : {X : Type 0} (x : X) (height width : ℕ) → IsTable height width (replicate height (replicate width x))
blank_is_table x height width = record {
  rows = length-replicate height (replicate width x);
  cols = λ r l. ap length (get_or-replicate height r (replicate width x) [] l) ∙ length-replicate width x;
}

-- nothing is there in new tables, and no lane is shut
pub blank_state : (o : CheckState) (ranks : ℕ) → o.ranks ≡ ranks → o.slots ≡ replicate ranks (replicate 256 None) → o.shut ≡ replicate ranks (replicate ranks false) → IsBlank ranks o
blank_state o ranks e f g = record {
  ranks_are = e;
  slots = λ i r n. (ap (λ t. slots_in t r n) f ∙ blank_cell None ranks 256 r n) i;
  shut = λ i r n. (ap (λ t. lanes_in t r n) g ∙ blank_cell false ranks ranks r n) i;
}
