use Rattle.std.proofs.Common.{◌≡◌, ◌+◌, ◌≤◌, ◌++◌, map, length, vec_len, vec_capacity}
use Rattle.cb_rank_runs.specs.Logs.{AreWhole, lists_in}
use Rattle.cb_rank_runs.proofs.logs.event_lists.Given as goal

abbrev pub invariant-loop-log : goal.invariant-loop-log
invariant-loop-log g l =
    let rest = l.log-iterator.rest.items in record {
      lists : map (λ list. list.items) l.lists.items ++ lists_in rest ≡ lists_in l.fn.logs.items;
      whole : AreWhole rest → AreWhole l.fn.logs.items;
      room : vec_len l.lists + length rest ≤ vec_capacity l.lists;
    }
