use Rattle.std.proofs.Common.{sym, ap, subst}
use Rattle.cb_rank.specs.Ranks.{ArePortsOf, next_half, slots_with}
use Rattle.cb_rank.proofs.Ports.{waits_for, ports_quiet}
use Rattle.cb_rank.proofs.ranks.Rank.take.Goals as goal

pub unreachable-requires : goal.unreachable-requires
unreachable-requires g c =
    let it = waits_for c.args.self.now c.args.from c.requires.rank c.requires.want in
    let lane = ap (λ s. s.is_stranger) (c.requires.ports c.args.from it.other.0 it.other.1) in
    let stranger = c.try_take.ensures.stranger.0 c.in-Stranger.is in
    cc

pub returns-clause-ports : goal.returns-clause-ports
returns-clause-ports g c =
    let it = waits_for c.args.self.now c.args.from c.requires.rank c.requires.want in
    let law = g.met.Q.Ports.taken c.args.ports.now c.try_take.new.self c.args.from c.try_take.result c.try_take.ensures.takes in
    subst (λ x. ArePortsOf x (g.Q.Ports.standing c.try_take.new.self)) (sym c.in_ok-accept.ensures.taken)
    (ports_quiet c.args.self.now it.half (slots_with (next_half c.args.self.now) c.match-try_take.arrival c.args.self.now.slots) c.args.self.now.refusals (g.Q.Ports.standing c.args.ports.now) (g.Q.Ports.standing c.try_take.new.self) it.next it.quiet (λ k. (law k).0) c.requires.ports)
