use Rattle.std.proofs.Common.{◌≡◌, None, refl, sym, ◌∙◌, ap, subst, inl}
use Rattle.cb_letters.specs.Letters.{mark_tag}
use Rattle.cb_letters.specs.Standing.{standing_refusal, next_letter}
use Rattle.cb_letters.specs.declared.Body.TheVariants as body_is
use Rattle.cb_rank.specs.Ranks.{ArePortsOf}
use Rattle.cb_rank.proofs.WantedHalf.{wants_shut_to}
use Rattle.cb_rank.proofs.Ports.{opens_shut, ports_stay, ports_shut}
use Rattle.cb_rank.proofs.ranks.Rank.close.Goals as goal

pub returns-then-not-room-clause-posts : goal.returns-then-not-room-clause-posts
returns-then-not-room-clause-posts g c =
    let next = wants_shut_to _ c.args.to c.requires.want in
    let it = opens_shut _ c.args.to _ c.requires.rank next c.requires.ports in
    rw next (inl ((refl, refl), c.room.ensures.keeps, c.room.ensures.full c.if-not-room.true it.lane))

pub unreachable-requires : goal.unreachable-requires
unreachable-requires g c =
    let next = wants_shut_to _ c.args.to c.requires.want in
    let it = opens_shut _ c.args.to _ c.requires.rank next c.requires.ports in
    let same = (g.met.Q.Ports.kept c.args.ports.now c.room.new.self c.room.ensures.keeps c.args.to).0 in
    let none : standing_refusal (g.Q.Ports.standing c.room.new.self c.args.to) ≡ None = ap standing_refusal same ∙ it.none in
    let accepted = c.in-Err.ensures.succeeds (c.room.ensures.room c.if-not-room.false) none in
    cc

pub returns-clause-ports : goal.returns-clause-ports
returns-clause-ports g c =
    let next = wants_shut_to _ c.args.to c.requires.want in
    let it = opens_shut _ c.args.to _ c.requires.rank next c.requires.ports in
    let kept = g.met.Q.Ports.kept c.args.ports.now c.room.new.self c.room.ensures.keeps in
    let letter = next_letter (g.Q.Ports.standing c.room.new.self c.args.to) c.args.to mark_tag body_is.Close in
    let law = g.met.Q.Ports.posted c.room.new.self c.try_close.new.self c.args.to letter c.in-Ok.ensures.accepted.2 c.in-Ok.ensures.accepted.0 in
    subst (λ x. ArePortsOf x (g.Q.Ports.standing c.try_close.new.self)) (sym c.shut.ensures)
    (ports_shut c.args.self.now c.args.to c.args.self.now.slots c.args.self.now.refusals letter (g.Q.Ports.standing c.room.new.self) (g.Q.Ports.standing c.try_close.new.self) next refl it.unshut law.0 (λ k ne. (law.1 k ne).0)
    (ports_stay c.args.self.now (g.Q.Ports.standing c.args.ports.now) (g.Q.Ports.standing c.room.new.self) (λ k. (kept k).0) c.requires.ports))
