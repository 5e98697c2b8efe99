use Rattle.std.proofs.Common.{◌≡◌, ◌+◌, ◌*◌, ◌≤◌, ◌++◌, take, drop}
use Rattle.cb_layout.specs.Segments.{shifted}
use Rattle.cb_market_pages.specs.Text.{lines_in}
use Rattle.cb_market_pages.proofs.runs.put_rows.Given as goal

-- the lines so far and those that are left are all
abbrev pub invariant-loop-n : goal.invariant-loop-n
invariant-loop-n l =
    (take l.end l.buffer ++ lines_in l.form (shifted l.top l.column (drop l.n l.rows) (drop l.n l.values)) ≡ take l.start l.fn.buffer ++ lines_in l.form (shifted l.top l.column l.rows l.values))
    × (l.end ≤ l.start + l.n * 43)
