-- The text of a column, as lines in a form.
use Rattle.std.proofs.Common.{◌≡◌, List, [], ◌∷◌, ◌++◌, refl, ap, map}
use Rattle.std.specs.Prelude.{flat_map}
use Rattle.cb_matrix.specs.declared.Entry.{Entry}
use Rattle.cb_matrix.specs.Sparse.{Sparse}
use Rattle.cb_market_pages.specs.declared.line_forms.LineForm.TheVariants.{RowAndValue, RowAndVertex}
use Rattle.cb_market_pages.specs.Text.{line_in, lines_in, vertex_line, vertex_text_of, vertex_pairs_text_of, with_value_from_one}

-- of numbers
pub number_lines : (m : Sparse) → lines_in RowAndValue m.entries ≡ vertex_text_of m
unfolding vertex_text_of
number_lines m = refl

counted_lines : (es : List Entry) → lines_in RowAndVertex es ≡ flat_map vertex_line (map with_value_from_one es)
counted_lines [] = refl
counted_lines (e ∷ es) = ap (λ bytes. line_in RowAndVertex e ++ bytes) (counted_lines es)

-- of vertices
pub vertex_lines : (m : Sparse) → lines_in RowAndVertex m.entries ≡ vertex_pairs_text_of m
unfolding vertex_pairs_text_of
vertex_lines m = counted_lines m.entries
