use Rattle.std.proofs.Common.{ℕ, ◌≡◌, ◌<◌, ◌≤◌, subst, arith, ⊎_elim}
use Rattle.std.proofs.lemmas.Bool.{cases_lt}
use Rattle.cb_lanes.specs.Desks.{IsPairSettled}
use Rattle.cb_lanes.proofs.Pairs.{SameDesks-trans, settled_before}
use Rattle.cb_lanes.proofs.settling.settle_all.Goals as goal

pub loop-low-preserved : goal.loop-low-preserved
loop-low-preserved g c =
    let inv = c.loop-low.invariant in
    let count = inv.same.count in
    let before = c.args.desks.now in
    let now = settled_before before c.loop-low.desks c.loop-low.low c.loop-high.high inv.same (omega arith) (omega arith) c.settle_pair.ensures.settled in
    record {
      same = SameDesks-trans before c.loop-low.desks _ inv.same c.settle_pair.ensures.same;
      done = inv.done;
      more = (λ i below.
          let Q : ℕ → Type 0 = λ (m : ℕ). IsPairSettled before m c.loop-high.high in
          ⊎_elim
          (λ (h : i < c.loop-low.low). inv.more i h)
          (λ (h : c.loop-low.low ≤ i). let e : c.loop-low.low ≡ i = omega arith in subst Q e now)
          (cases_lt i c.loop-low.low));
    }

pub loop-high-preserved : goal.loop-high-preserved
loop-high-preserved g c =
    let inv = c.loop-low.invariant in
    record {
      same = inv.same;
      done = (λ i j order below.
          let Q : ℕ → Type 0 = λ (m : ℕ). IsPairSettled c.args.desks.now i m in
          ⊎_elim
          (λ (h : j < c.loop-high.high). inv.done i j order h)
          (λ (h : c.loop-high.high ≤ j). let e : c.loop-high.high ≡ j = omega arith in subst Q e (inv.more i (omega arith)))
          (cases_lt j c.loop-high.high));
    }

pub returns-clause-settled : goal.returns-clause-settled
returns-clause-settled g c low high order below = c.loop-high.invariant.done low high order (omega arith)
