use Rattle.std.proofs.Common.{◌≡◌, ◌++◌, take}
use Rattle.cb_market_pages.specs.Text.{column_lines}
use Rattle.cb_market_pages.proofs.text_pages.put_column.Given as goal

-- the lines so far are appended; there is a first line
abbrev pub invariant-loop-n : goal.invariant-loop-n
invariant-loop-n l =
    (l.page ≡ l.fn.page ++ column_lines l.form l.top l.column (take l.n l.rows) (take l.n l.values))
    × (l.n ≡ 0 → l.page ≡ l.fn.page)
