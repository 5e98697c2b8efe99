use Rattle.std.proofs.Common.{◌+◌, ◌<◌, ◌≤◌, ◌++◌, [], ◌∷◌, length, take, get_or, ap, sym, ◌∙◌, arith, append-nil, append_assoc, rules}
use Rattle.std.proofs.lemmas.List.{take_all}
use Rattle.cb_matrix.specs.declared.Entry.{Entry}
use Rattle.cb_layout.specs.Segments.{shifted}
use Rattle.cb_layout.proofs.ShiftedColumns.{shifted_none, shifted_more}
use Rattle.cb_layout.proofs.glue.append_segment.Goals as goal

pub loop-n-init : goal.loop-n-init
loop-n-init c =
    let s = c.args.segment in
    let was = c.args.entries.now.items in record {
      entries = c.reserve.ensures.items ∙ sym (append-nil was) ∙ ap (λ es. was ++ es) (sym (shifted_none s.top s.column s.rows.now s.values.now));
      room = search rules;
    }

pub loop-n-preserved : goal.loop-n-preserved
loop-n-preserved c =
    let s = c.args.segment in
    let was = c.args.entries.now.items in
    let n = c.loop-n.n in
    let within : n < length s.rows.now = omega arith in
    let one : Entry = record { row = s.top + get_or s.rows.now n 0; column = s.column; value = get_or s.values.now n 0 } in record {
      entries =
          c.push_reserved.ensures.items
          ∙ ap (λ es. es ++ one ∷ []) c.loop-n.invariant.entries
          ∙ append_assoc was (shifted s.top s.column (take n s.rows.now) (take n s.values.now)) (one ∷ [])
          ∙ ap (λ es. was ++ es) (sym (shifted_more s.top s.column s.rows.now s.values.now n c.requires.lengths within));
      room = search rules;
    }

pub returns-clause-ok : goal.returns-clause-ok
returns-clause-ok c =
    let s = c.args.segment in
    let past = c.loop-n-test.false in
    let same = c.requires.lengths in
    let rows : length s.rows.now ≤ c.loop-n.n = omega arith in
    let values : length s.values.now ≤ c.loop-n.n = omega arith in
    c.loop-n.invariant.entries
    ∙ (λ t. c.args.entries.now.items ++ shifted s.top s.column (take_all c.loop-n.n s.rows.now rows t) (take_all c.loop-n.n s.values.now values t))
