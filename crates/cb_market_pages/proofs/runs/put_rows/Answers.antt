use Rattle.std.proofs.Common.{◌≡◌, ◌+◌, ◌++◌, length, drop, take, get_or, ap, sym, ◌∙◌, arith, append_assoc, append-nil, length-drop}
use Rattle.std.specs.Prelude.{decimal}
use Rattle.std.proofs.lemmas.Fmt.{length-decimal-le}
use Rattle.std.specs.Prelude.{flat_map}
use Rattle.cb_matrix.specs.declared.Entry.{Entry}
use Rattle.cb_layout.specs.Segments.{shifted}
use Rattle.cb_market_pages.specs.Text.{line_in}
use Rattle.cb_market_pages.proofs.SegmentRests.{shifted_next, shifted_done}
use Rattle.cb_market_pages.proofs.WrittenBytes.{same_line}
use Rattle.cb_market_pages.proofs.runs.put_rows.Goals as goal

pub loop-n-preserved : goal.loop-n-preserved
loop-n-preserved c =
    let rows = c.args.rows.now in
    let values = c.args.values.now in
    let n = c.loop-n.n in
    let line = line_in c.args.form in
    let page = take c.loop-n.end c.loop-n.buffer in
    let e : Entry = record { row = c.args.top + get_or rows n 0; column = c.args.column; value = get_or values n 0 } in
    let rest = flat_map line (shifted c.args.top c.args.column (drop (n + 1) rows) (drop (n + 1) values)) in
    let next = shifted_next c.args.top c.args.column rows values n c.requires.lengths c.loop-n-test.true in
    let own = same_line c.args.form _ c.args.top (get_or rows n 0) c.args.column (get_or values n 0) c.as_bytes-digits.result.now (search arith) (search arith) in (
      ap (λ p. p ++ rest) (c.put_one-end.ensures.line ∙ ap (λ l. page ++ l) own)
          ∙ append_assoc page (line e) rest
          ∙ ap (λ es. page ++ flat_map line es) (sym next)
          ∙ c.loop-n.invariant.0,
      (let l = c.put_one-end.ensures.limit in let i = c.loop-n.invariant.1 in omega arith),
    )

pub put_one-end-requires-clause-column : goal.put_one-end-requires-clause-column
put_one-end-requires-clause-column c =
    let digits = length-decimal-le 10 (c.args.column + 1) (omega arith) (omega arith) (omega (arith, c.ranges.column.fits)) in
    let same : c.as_bytes-digits.result.now ≡ decimal (c.args.column + 1) = search arith in
    omega (arith, digits, ap length same)

pub returns-clause-lines : goal.returns-clause-lines
returns-clause-lines c =
    let rows = c.args.rows.now in
    let n = c.loop-n.n in
    let line = line_in c.args.form in
    let page = take c.loop-n.end c.loop-n.buffer in
    let past : length (drop n rows) ≡ 0 = omega (arith, length-drop n rows, c.loop-n-test.false) in
    let none = shifted_done c.args.top c.args.column (drop n rows) (drop n c.args.values.now) past in
    sym (append-nil page) ∙ ap (λ es. page ++ flat_map line es) (sym none) ∙ c.loop-n.invariant.0
