use Rattle.cb_rings.proofs.bells.wait_at.Given as goal

abbrev pub invariant-loop : goal.invariant-loop
invariant-loop g l =
    record {
      looked : g.E.RingEnd.looked l.initial.end l.end;
    }
