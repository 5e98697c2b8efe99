-- Terms that are joined one after another: how many products are left, and what they add.
use Rattle.std.proofs.Common.{◌≡◌, ℕ, ◌+◌, ◌-◌, ◌<◌, ◌≤◌, List, length, take, drop, get_or, sym, ap, ◌∙◌, arith}
use Rattle.std.proofs.lemmas.List.{drop_more, drop_all, length-take}
use Rattle.cb_semirings.specs.Arithmetic.{Arithmetic, IsValue, IsSemiring}
use Rattle.cb_product.specs.declared.terms.Term.{Term}
use Rattle.cb_product.specs.Terms.{terms_length}

-- the products of the next term, and those of the others
pub terms_length-rest : (ts : List Term) (n : ℕ) (d : Term) → n < length ts → terms_length (drop n ts) ≡ ((get_or ts n d).end - (get_or ts n d).at) + terms_length (drop (n + 1) ts)
unfolding terms_length
terms_length-rest ts n d l = ap terms_length (drop_more ts n d l)

-- past the last term there are none
pub terms_length-end : (ts : List Term) (n : ℕ) → length ts ≤ n → terms_length (drop n ts) ≡ 0
unfolding terms_length
terms_length-end ts n l = ap terms_length (drop_all n ts l)

-- a range of a list is no longer than its places
pub range_length : (xs : List ℕ) (a b : ℕ) → length (take (b - a) (drop a xs)) ≤ b - a
range_length xs a b = rw (length-take (b - a) (drop a xs)) (omega arith)

module _ (s : Arithmetic) (laws : IsSemiring s) where
  -- a column and the first of the terms
  pub first_added : (own t rest x all : ℕ) → IsValue s own → IsValue s t → IsValue s rest → x ≡ s.add own t → all ≡ s.add t rest → s.add x rest ≡ s.add own all
  first_added own t rest x all is_own is_t is_rest e f = ap (λ y. s.add y rest) e ∙ laws.add_assoc own t rest is_own is_t is_rest ∙ ap (s.add own) (sym f)

  -- a column without entries and the first two of the terms
  pub two_added : (own t u rest x more all : ℕ) → own ≡ s.zero → IsValue s t → IsValue s u → IsValue s rest → x ≡ s.add t u → more ≡ s.add u rest → all ≡ s.add t more → s.add x rest ≡ s.add own all
  two_added own t u rest x more all none is_t is_u is_rest e f h =
      first_added t u rest x more is_t is_u is_rest e f ∙ sym h
      ∙ sym (laws.zero_add all (rw (h, f) (laws.add_value t _ is_t (laws.add_value u rest is_u is_rest)))) ∙ ap (λ y. s.add y all) (sym none)

  -- a column alone
  pub none_added : (own rest blank x : ℕ) → IsValue s own → blank ≡ s.zero → x ≡ s.add blank own → s.add x rest ≡ s.add own rest
  none_added own rest blank x is_own none e = ap (λ y. s.add y rest) (e ∙ ap (λ b. s.add b own) none ∙ laws.zero_add own is_own)
