-- Shares of a text: the lines of some entries, which can be made independently of all others; and sheets for them.
use Rattle.std.specs.Prelude.{ℕ, ◌≤◌, List, flat_map}
use Rattle.cb_semirings.specs.Arithmetic.{Arithmetic}
use Rattle.cb_matrix.specs.declared.Entry.{Entry}
use Rattle.cb_market_pages.specs.declared.sheets.TheConstants.{LONGEST_HEAD, LONGEST_SHARE}
use Rattle.cb_market_pages.specs.Text.{entry_line}

-- the lines of entries
abbrev pub lines_of : Arithmetic → List Entry → List ℕ
lines_of s entries = flat_map (entry_line s.writes_pattern) entries

-- A buffer with room for this many bytes has room for any share.
pub record HasRoom (bytes : ℕ) : Type 0 where
  pub all : LONGEST_SHARE ≤ bytes

-- A buffer of this length has a head's bytes at least, and those that are written.
pub record IsBegun (bytes written : ℕ) : Type 0 where
  pub head : LONGEST_HEAD ≤ bytes
  pub begun : written ≤ bytes
