use Rattle.cb_matrix.specs.declared.Entry.{Entry}
use Rattle.cb_searches.proofs.TakenNumbers.{taken_none, next_inside, taken_one, all_taken}
use Rattle.cb_searches.proofs.searches.take_over.Goals as goal

pub loop-entry-init : goal.loop-entry-init
loop-entry-init c = taken_none c.args.known.now

pub set-requires : goal.set-requires
set-requires c =
    let d : Entry = record { row = 0; column = 0; value = 0 } in
    let n = c.requires.numbers in
    record { vertex = next_inside c.args.entries.now c.loop-entry.entry-index d c.loop-entry-test.true c.requires.rows c.requires.column c.args.known.now c.loop-entry.known c.loop-entry.known c.loop-entry.invariant n.0 n.1 n.2 }

pub loop-entry-preserved : goal.loop-entry-preserved
loop-entry-preserved c =
    let d : Entry = record { row = 0; column = 0; value = 0 } in
    taken_one c.args.entries.now c.loop-entry.entry-index d c.loop-entry-test.true c.requires.rows c.requires.column c.args.known.now c.loop-entry.known c.set.new.self c.loop-entry.invariant c.in_ok-set.ensures.values c.in_ok-set.ensures.numbers

pub returns-clause-finite : goal.returns-clause-finite
returns-clause-finite c = (all_taken c.args.known.now c.loop-entry.known c.args.entries.now c.loop-entry.entry-index c.loop-entry-test.false c.loop-entry.invariant).finite

pub returns-clause-values : goal.returns-clause-values
returns-clause-values c = (all_taken c.args.known.now c.loop-entry.known c.args.entries.now c.loop-entry.entry-index c.loop-entry-test.false c.loop-entry.invariant).values
