use Rattle.std.proofs.Common.{rules, ◌+◌, ◌<◌, ◌≤◌, length, arith}
use Rattle.cb_lists.specs.Lists.{starts, count}
use Rattle.cb_lists.proofs.Rising.{below_last}
use Rattle.cb_kept.proofs.FirstMisfits.{all_ordered, not_start}
use Rattle.cb_kept.proofs.misfits.first_unordered_entry.Goals as goal

pub overflow_step-entry : goal.overflow_step-entry
overflow_step-entry c =
    let l = c.loop-n-test.true in
    let w = c.stored-n-end.ensures.count in
    let h = below_last (starts c.args.lists.now) (count c.args.lists.now) c.requires.rising (c.loop-n.n + 1) _ (omega arith) c.requires.lengths.last in
    let first = c.start-first.ensures in
    let end = c.start-end.ensures in
    let rising = c.requires.rising c.loop-n.n (omega arith) in
    let within : c.start-first.result ≤ length c.args.lists.now.rows.now = omega arith in
    search rules

pub offset_bounds-lists-entry : goal.offset_bounds-lists-entry
offset_bounds-lists-entry c =
    let l = c.loop-n-test.true in
    let w = c.stored-n-end.ensures.count in
    let h = below_last (starts c.args.lists.now) (count c.args.lists.now) c.requires.rising (c.loop-n.n + 1) _ (omega arith) c.requires.lengths.last in
    let first = c.start-first.ensures in
    let end = c.start-end.ensures in
    let within : c.start-end.result ≤ length c.args.lists.now.rows.now = omega arith in
    search rules

pub bounds-lists-entry : goal.bounds-lists-entry
bounds-lists-entry c =
    let l = c.loop-n-test.true in
    let w = c.stored-n-end.ensures.count in
    let h = below_last (starts c.args.lists.now) (count c.args.lists.now) c.requires.rising (c.loop-n.n + 1) _ (omega arith) c.requires.lengths.last in
    let first = c.start-first.ensures in
    let end = c.start-end.ensures in
    let within : c.start-end.result ≤ length c.args.lists.now.rows.now = omega arith in
    search rules

pub offset_bounds-lists-entry-in-loop-entry : goal.offset_bounds-lists-entry-in-loop-entry
offset_bounds-lists-entry-in-loop-entry c =
    let l = c.loop-n-test.true in
    let w = c.stored-n-end.ensures.count in
    let h = below_last (starts c.args.lists.now) (count c.args.lists.now) c.requires.rising (c.loop-n.n + 1) _ (omega arith) c.requires.lengths.last in
    let first = c.start-first.ensures in
    let end = c.start-end.ensures in
    let within : c.start-end.result ≤ length c.args.lists.now.rows.now = omega arith in
    search rules

pub bounds-lists-entry-in-loop-entry : goal.bounds-lists-entry-in-loop-entry
bounds-lists-entry-in-loop-entry c =
    let l = c.loop-n-test.true in
    let w = c.stored-n-end.ensures.count in
    let h = below_last (starts c.args.lists.now) (count c.args.lists.now) c.requires.rising (c.loop-n.n + 1) _ (omega arith) c.requires.lengths.last in
    let first = c.start-first.ensures in
    let end = c.start-end.ensures in
    let within : c.start-end.result ≤ length c.args.lists.now.rows.now = omega arith in
    search rules

pub returns-then-lists-entry : goal.returns-then-lists-entry
returns-then-lists-entry c =
    let l : c.loop-n.n < count c.args.lists.now = search rules in
    let h = below_last (starts c.args.lists.now) (count c.args.lists.now) c.requires.rising (c.loop-n.n + 1) _ (omega arith) c.requires.lengths.last in
    let first = c.start-first.ensures in
    let end = c.start-end.ensures in
    let from : c.start-first.result < c.loop-entry.entry = search rules in
    let before = c.loop-entry-test.true in
    record {
      within = omega arith;
      before = all_ordered c.args.lists.now c.loop-n.n c.loop-entry.entry l c.loop-n.invariant (λ k a b. c.loop-entry.invariant k (omega arith) b);
      here = λ _. (not_start c.args.lists.now c.requires.rising c.loop-n.n c.loop-entry.entry l (omega arith) (omega arith), c.if-lists-entry.true);
    }
