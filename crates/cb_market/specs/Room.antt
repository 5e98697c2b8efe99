-- How much room is taken for entries before they are read.
use Rattle.std.specs.Prelude.{ℕ, ◌+◌, ◌*◌, ◌/◌, min}
use Rattle.cb_market_lines.specs.declared.header.Header.{Header}
use Rattle.cb_market_lines.specs.declared.header.Field.{Field}
use Rattle.cb_market_lines.specs.declared.header.Field.TheVariants.{Integer, Pattern}
use Rattle.cb_market_lines.specs.declared.header.Symmetry.{Symmetry}
use Rattle.cb_market_lines.specs.declared.header.Symmetry.TheVariants.{General, Symmetric, SkewSymmetric}

-- the bytes of the shortest line of an entry, `1 1 1` or `1 1` with a line feed
abbrev pub shortest_line : Field → ℕ
shortest_line Integer = 6
shortest_line Pattern = 4

-- the most entries that a line gives: its own, and the mirrored one
abbrev pub most_given : Symmetry → ℕ
most_given General = 1
most_given Symmetric = 2
most_given SkewSymmetric = 2

-- the most entries that this many bytes give, whose last line may lack a line feed; but no more than are announced
abbrev pub room_of : Header → ℕ → ℕ → ℕ
room_of header count bytes = most_given header.symmetry * min ((bytes + 1) / shortest_line header.field) count
