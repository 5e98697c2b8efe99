-- What a call on Matrix Market texts and kept matrices returns.
use Rattle.std.specs.Prelude.{◌≡◌, ℕ, List}
use Rattle.cb_semirings.specs.declared.names.SemiringName.{SemiringName}
use Rattle.cb_semirings.specs.Arithmetic.{Arithmetic}
use Rattle.cb_matrix.specs.Sparse.{Sparse}
use Rattle.cb_market_lines.specs.Reads.{Reads}
use Rattle.cb_market_pages.specs.Text.{text_of}
use Rattle.cb_kept.specs.declared.kept_texts.KeptText.{KeptText}
use Rattle.cb_kept.specs.declared.kept.Kept.{Kept}
use Rattle.cb_kept.specs.Kept.{Keeps, matrix_in}

-- the text of a kept matrix, over a semiring
abbrev pub IsKeptText : Arithmetic → Kept → KeptText → Type 0
IsKeptText s k t = t.bytes.now ≡ text_of s (matrix_in k)

-- the matrix of a text, kept over a semiring and its name
abbrev pub IsKeptRead : Arithmetic → SemiringName → List ℕ → Kept → Type 0
IsKeptRead s name text k = (m : Sparse) × Reads s text m × Keeps name m k
