use Rattle.std.proofs.Common.{ap, ◌∙◌, sym}
use Rattle.cb_matrix.specs.declared.Entry.{Entry}
use Rattle.cb_searches.proofs.TakenNumbers.{lower_kept, lower_passed}
use Rattle.cb_searches.proofs.searches.lower_entries.Goals as goal
use Rattle.cb_searches.proofs.searches.lower_entries.Goals.{then-is_lower+in_ok-push, else-is_lower}

pub loop-entry-preserved : goal.loop-entry-preserved
loop-entry-preserved c =
    let es = c.args.entries.now in
    let i = c.loop-entry.entry-index in
    let d : Entry = record { row = 0; column = 0; value = 0 } in
    elim c.if-is_lower.branch [
      | then-is_lower+in_ok-push w ↦ lower_kept c.args.known.now es i d c.loop-entry-test.true c.loop-entry.lower.items _ c.loop-entry.invariant (sym c.is_lower.ensures ∙ w.if-is_lower.true) (ap (λ v. v.items) w.lower-is ∙ w.in_ok-push.ensures.items)
      | else-is_lower w ↦ lower_passed c.args.known.now es i d c.loop-entry-test.true c.loop-entry.lower.items _ c.loop-entry.invariant (sym c.is_lower.ensures ∙ w.if-is_lower.false) (ap (λ v. v.items) w.lower-is)
    ]
