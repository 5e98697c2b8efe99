-- A sort by place.
use Rattle.std.proofs.Common.{◌≡◌, ℕ, false, List, get_or, sym, ◌∙◌, arith}
use Rattle.std.specs.Prelude.{AllPairs, filter}
use Rattle.std.specs.Ordering.{nat_cmp, ordering_then, is_lt}
use Rattle.std.specs.List.Sorted.{IsSortedByKey, IsStableByKey, ties}
use Rattle.std.proofs.lemmas.Bool.Decides.{nat_tests}
use Rattle.std.proofs.lemmas.List.Sorted.{sorted_far, ranks_by}
use Rattle.std.proofs.lemmas.List.Elements.{filter_agree}
use Rattle.std.specs.Cmp.{IsTotalOrder}
use Rattle.std.proofs.lemmas.Cmp.{nat_cmp_total, then_total, on_total}
use Rattle.std.specs.declared.cmp.Ordering.{Ordering}
use Rattle.cb_matrix.specs.declared.Entry.{Entry}
use Rattle.cb_matrix.specs.Sparse.{is_at, IsNotAfter}

-- what entries are sorted by
abbrev pub place : Entry → ℕ × ℕ
place e = (e.column, e.row)

-- places by column and then by row
abbrev pub place_cmp : ℕ × ℕ → ℕ × ℕ → Ordering
place_cmp p q = ordering_then (nat_cmp p.0 q.0) (nat_cmp p.1 q.1)

place_total : IsTotalOrder place_cmp
place_total = then_total (on_total (λ (p : ℕ × ℕ). p.0) nat_cmp_total) (on_total (λ (p : ℕ × ℕ). p.1) nat_cmp_total)

not_after : (d e : Entry) → is_lt (place_cmp (place e) (place d)) ≡ false → IsNotAfter d e
not_after d e h = grind (arith, nat_tests)

-- a sort by place puts no entry after a later one
pub in_order : (xs : List Entry) → IsSortedByKey place place_cmp xs → AllPairs IsNotAfter xs
in_order xs up i j d l m = not_after (get_or xs i d) (get_or xs j d) (sorted_far (λ x y. is_lt (place_cmp (place x) (place y))) (ranks_by place_total place) xs up i j d (omega arith) m)

same_test : (e x : Entry) → ties (λ x y. is_lt (place_cmp (place x) (place y))) e x ≡ is_at e.row e.column x
same_test e x = grind (arith, nat_tests)

-- a stable sort by place keeps the entries of each place in their order
pub same_places : (xs ys : List Entry) → IsStableByKey place place_cmp xs ys → (i j : ℕ) → filter (is_at i j) ys ≡ filter (is_at i j) xs
same_places xs ys h i j =
    let e : Entry = record { row = i; column = j; value = 0 } in
    sym (filter_agree _ _ (same_test e) ys) ∙ h e ∙ filter_agree _ _ (same_test e) xs
