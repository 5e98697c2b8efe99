-- Worked examples, by computing: the definitions say what is meant.
use Rattle.std.specs.Prelude.{◌≡◌, ℕ, ◌-◌, ◌^◌, nat_lt, List, [], ◌∷◌, refl}
use Rattle.cb_semirings.specs.Tables.{plus_times, min_plus, max_min}
use Rattle.cb_matrix.specs.declared.Entry.{Entry}
use Rattle.cb_matrix.specs.Sparse.{Sparse, value_at}
use Rattle.cb_matrix.specs.Values.{product, collected, total, column_of, columns_of}
use Rattle.cb_matrix.specs.Operations.{transposed, sum_of, times_of, pruned, masked, cut, placed}

abbrev entry : ℕ → ℕ → ℕ → Entry
entry i j v = record { row = i; column = j; value = v }

abbrev sparse : ℕ → ℕ → List Entry → Sparse
sparse m n es = record { shape = record { rows = m; cols = n }; entries = es }

-- 1 2 over 0 3, and 0 1 over 4 0
abbrev a : Sparse
a = sparse 2 2 (entry 0 0 1 ∷ entry 0 1 2 ∷ entry 1 1 3 ∷ [])

abbrev b : Sparse
b = sparse 2 2 (entry 1 0 4 ∷ entry 0 1 1 ∷ [])

product-a-b : product plus_times a b ≡ sparse 2 2 (entry 0 0 8 ∷ entry 1 0 12 ∷ entry 0 1 1 ∷ [])
unfolding value_at total column_of columns_of
product-a-b = refl

-- a sum that is zero is not stored
product-cancels : product plus_times (sparse 1 2 (entry 0 0 1 ∷ entry 0 1 (2 ^ 64 - 1) ∷ [])) (sparse 2 1 (entry 0 0 1 ∷ entry 1 0 1 ∷ [])) ≡ sparse 1 1 []
unfolding value_at total column_of columns_of
product-cancels = refl

-- infinity is not stored
product-infinite : product min_plus (sparse 1 1 (entry 0 0 (2 ^ 64 - 2) ∷ [])) (sparse 1 1 (entry 0 0 1 ∷ [])) ≡ sparse 1 1 []
unfolding value_at total column_of columns_of
product-infinite = refl

product-top : product min_plus (sparse 1 1 (entry 0 0 (2 ^ 64 - 2) ∷ [])) (sparse 1 1 (entry 0 0 0 ∷ [])) ≡ sparse 1 1 (entry 0 0 (2 ^ 64 - 2) ∷ [])
unfolding value_at total column_of columns_of
product-top = refl

-- two ways by the narrowest step, and the wider of them
product-widest : product max_min (sparse 1 2 (entry 0 0 5 ∷ entry 0 1 2 ∷ [])) (sparse 2 1 (entry 0 0 3 ∷ entry 1 0 9 ∷ [])) ≡ sparse 1 1 (entry 0 0 3 ∷ [])
unfolding value_at total column_of columns_of
product-widest = refl

collected-doubles : collected plus_times (record { rows = 1; cols = 1 }) (entry 0 0 3 ∷ entry 0 0 4 ∷ []) ≡ sparse 1 1 (entry 0 0 7 ∷ [])
unfolding value_at total column_of columns_of
collected-doubles = refl

collected-least : collected min_plus (record { rows = 1; cols = 1 }) (entry 0 0 3 ∷ entry 0 0 4 ∷ []) ≡ sparse 1 1 (entry 0 0 3 ∷ [])
unfolding value_at total column_of columns_of
collected-least = refl

transposed-a : transposed plus_times a ≡ sparse 2 2 (entry 0 0 1 ∷ entry 1 0 2 ∷ entry 1 1 3 ∷ [])
unfolding value_at column_of columns_of
transposed-a = refl

sum_of-a-b : sum_of plus_times a b ≡ sparse 2 2 (entry 0 0 1 ∷ entry 1 0 4 ∷ entry 0 1 3 ∷ entry 1 1 3 ∷ [])
unfolding value_at column_of columns_of
sum_of-a-b = refl

times_of-a-b : times_of plus_times a b ≡ sparse 2 2 (entry 0 1 2 ∷ [])
unfolding value_at column_of columns_of
times_of-a-b = refl

-- the entries above 1 go
pruned-a : pruned plus_times (λ v. nat_lt 1 v) a ≡ sparse 2 2 (entry 0 0 1 ∷ [])
unfolding value_at column_of columns_of
pruned-a = refl

-- the values are those of a
masked-a-b : masked plus_times a b ≡ sparse 2 2 (entry 0 1 2 ∷ [])
unfolding value_at column_of columns_of
masked-a-b = refl

-- row 0 of column 1
cut-a : cut plus_times (0, 1) (1, 2) a ≡ sparse 1 1 (entry 0 0 2 ∷ [])
unfolding value_at column_of columns_of
cut-a = refl

placed-cut : placed plus_times (record { rows = 2; cols = 2 }) (1, 1) (sparse 1 1 (entry 0 0 2 ∷ [])) ≡ sparse 2 2 (entry 1 1 2 ∷ [])
unfolding value_at column_of columns_of
placed-cut = refl
