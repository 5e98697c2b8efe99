-- Columns without entries: those that aren't in a list of the columns of all entries.
use Rattle.std.proofs.Common.{◌≡◌, ◌≢◌, ◌∙◌, ℕ, List, [], get_or, ap, subst, sym}
use Rattle.std.specs.Prelude.{All, Contains}
use Rattle.std.proofs.lemmas.List.Elements.{All-weaker}
use Rattle.cb_matrix.specs.declared.Entry.{Entry}
use Rattle.cb_dcsc.specs.Columns.{in_column}
use Rattle.cb_dcsc.proofs.ColumnEntries.{in_column-none}
use Rattle.cb_product.specs.declared.column_index.TheConstants.{NONE}
use Rattle.cb_product.specs.ColumnStarts.{IsNoted, slot_of}
use Rattle.cb_product.specs.InColumns.{AreInColumns}

-- what holds of each listed column holds of each entry's column
pub all_columns : (P : ℕ → Type 0) (columns : List ℕ) (es : List Entry) → AreInColumns columns es → All P columns → All (λ e. P e.column) es
all_columns P columns es stand h = All-weaker (λ e. Contains columns e.column) (λ e. P e.column) (λ e c. subst P c.2 (h c.0 e.column c.1)) es stand

-- so a column that isn't listed has no entries
pub nothing_there : (j : ℕ) (es : List Entry) (columns : List ℕ) → AreInColumns columns es → All (λ c. c ≢ j) columns → [] ≡ in_column j es
nothing_there j es columns stand others = sym (in_column-none j es (all_columns (λ c. c ≢ j) columns es stand others))

-- a column whose slot holds no place has no entries, if the slot of each entry's column holds one
pub none_noted : (j : ℕ) (es : List Entry) (places : List ℕ) (shift : ℕ) → All (λ e. IsNoted places shift e.column) es → get_or places (slot_of j shift) 0 ≡ NONE → [] ≡ in_column j es
none_noted j es places shift noted none = sym (in_column-none j es (All-weaker (λ e. IsNoted places shift e.column) (λ e. e.column ≢ j) (λ e is same. is (ap (λ c. get_or places (slot_of c shift) 0) same ∙ none)) es noted))
