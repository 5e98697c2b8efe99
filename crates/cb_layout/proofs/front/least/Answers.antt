use Rattle.std.proofs.Common.{◌<◌, arith}
use Rattle.cb_layout.proofs.Fronts.{least_at_first}
use Rattle.cb_layout.proofs.front.least.Goals as goal

pub loop-k-init : goal.loop-k-init
loop-k-init c = record { so_far = least_at_first c.args.columns.now 0; limit = omega arith }

pub returns-then-column-clause-none : goal.returns-then-column-clause-none
returns-then-column-clause-none c k l =
    let end = c.loop-k-test.false in
    let none = c.if-column.true in
    let h = c.loop-k.invariant.so_far.least k (omega arith) in
    omega arith

pub returns-clause-some : goal.returns-clause-some
returns-clause-some c =
    let end = c.loop-k-test.false in
    let within = c.loop-k.auto.k-end in
    let limit = c.loop-k.invariant.limit in
    let ne = c.if-column.false in
    let some : c.loop-k.column < 4294967295 = omega arith in
    let found = c.loop-k.invariant.so_far.found some in
    let row = found.0 in
    record {
      row = omega arith;
      there = found.1;
      some = some;
      least = λ k l. c.loop-k.invariant.so_far.least k (omega arith);
      first = found.2;
    }
