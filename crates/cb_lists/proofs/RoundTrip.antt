-- The lists of a matrix stand for it.
use Rattle.std.proofs.Common.{◌≡◌, ◌≢◌, ℕ, true, false, List, [], ◌∷◌, refl, ap, ◌∙◌, arith}
use Rattle.std.specs.Prelude.{All, ◌==◌, length}
use Rattle.std.proofs.lemmas.Bool.{ne_eqb}
use Rattle.std.proofs.lemmas.Bool.Decides.{nat_tests}
use Rattle.std.proofs.lemmas.List.Elements.{All-head, All-tail}
use Rattle.cb_semirings.specs.Arithmetic.{Arithmetic}
use Rattle.cb_matrix.specs.declared.Entry.{Entry}
use Rattle.cb_matrix.specs.Sparse.{Sparse, IsMatrix}
use Rattle.cb_dcsc.specs.Compressed.{piece, pieces, all_entries}
use Rattle.cb_lists.specs.declared.lists.Columns.{Columns}
use Rattle.cb_lists.specs.Lists.{count, listed, listed_in, nonzero, matrix_of, HasLists}

-- entries that aren't zero are all kept
none_zero : (s : Arithmetic) (es : List Entry) → All (λ e. e.value ≢ s.zero) es → nonzero s es ≡ es
none_zero s [] h = refl
none_zero s (e ∷ es) h =
    let stays : (e.value == s.zero) ≡ false = ne_eqb e.value s.zero (All-head (λ e. e.value ≢ s.zero) e es h) in
    rw stays (ap (λ (l : List Entry). e ∷ l) (none_zero s es (All-tail (λ e. e.value ≢ s.zero) e es h)))

-- in doubly compressed columns with starts of 64 bits all entries are listed
all_listed : (c : Columns) → c.kind ≡ 0 → c.wide ≡ 1 → listed c ≡ all_entries c.columns.now c.starts64.now c.rows.now c.values.now
all_listed c kind wide =
    let dcsc : (c.kind == 0) ≡ true = grind (arith, nat_tests) in
    let narrow : (c.wide == 0) ≡ false = grind (arith, nat_tests) in
    let each : (n : ℕ) → listed_in c n ≡ piece c.columns.now c.starts64.now c.rows.now c.values.now n = λ n. rw (dcsc, narrow) refl in
    let size : count c ≡ length c.columns.now = rw dcsc refl in
    λ i. pieces (λ n. each n i) (size i)

-- so they stand for the matrix
pub stand_for : (s : Arithmetic) (m : Sparse) (c : Columns) → IsMatrix s m → HasLists m c → matrix_of s c ≡ m
stand_for s m c is has =
    let entries : listed c ≡ m.entries = all_listed c has.kind has.wide ∙ has.entries in
    let kept : nonzero s (listed c) ≡ m.entries = ap (nonzero s) entries ∙ none_zero s m.entries is.not_zero in
    λ i. record { shape = has.shape i; entries = kept i }
