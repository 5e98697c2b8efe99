-- The texts of the files of a job.
use Rattle.std.specs.Prelude.{ℕ, List, [], flat_map, slice_index_or, Vec}

-- the bytes of parts, one after the other
abbrev pub joined : {A : Type 0} → List (Vec ℕ A) → List ℕ
joined parts = flat_map (λ p. p.items) parts

-- the text at a position, or an empty one
abbrev pub text_at : List (List ℕ) → ℕ → List ℕ
text_at texts i = slice_index_or texts i []
