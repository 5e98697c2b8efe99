use Rattle.std.proofs.Common.{◌≡◌, None, refl, sym, ◌∙◌, ap, subst, inl}
use Rattle.cb_letters.specs.Standing.{standing_refusal, next_letter}
use Rattle.cb_rank.specs.Ranks.{ArePortsOf}
use Rattle.cb_rank.proofs.WantedHalf.{wants_post_to}
use Rattle.cb_rank.proofs.RankAfterHalf.{copy_is_open}
use Rattle.cb_rank.proofs.Ports.{opens_post, ports_stay, ports_post}
use Rattle.cb_rank.proofs.ranks.Rank.post.Goals as goal

pub returns-then-not-room-clause-posts : goal.returns-then-not-room-clause-posts
returns-then-not-room-clause-posts g c =
    let next = wants_post_to _ c.args.to c.requires.want in
    let it = opens_post _ c.args.to next.0 next.1 _ c.requires.rank next.2 c.requires.ports in
    rw next.2 (inl ((refl, refl), c.room.ensures.keeps, c.room.ensures.full c.if-not-room.true it.lane))

pub unreachable-requires : goal.unreachable-requires
unreachable-requires g c =
    let next = wants_post_to _ c.args.to c.requires.want in
    let it = opens_post _ c.args.to next.0 next.1 _ c.requires.rank next.2 c.requires.ports in
    let same = (g.met.Q.Ports.kept c.args.ports.now c.room.new.self c.room.ensures.keeps c.args.to).0 in
    let none : standing_refusal (g.Q.Ports.standing c.room.new.self c.args.to) ≡ None = ap standing_refusal same ∙ it.none in
    let accepted = c.in-Err.ensures.succeeds (c.room.ensures.room c.if-not-room.false) none in
    cc

pub returns-clause-ports : goal.returns-clause-ports
returns-clause-ports g c =
    let next = wants_post_to _ c.args.to c.requires.want in
    let it = opens_post _ c.args.to next.0 next.1 _ c.requires.rank next.2 c.requires.ports in
    let kept = g.met.Q.Ports.kept c.args.ports.now c.room.new.self c.room.ensures.keeps in
    let letter = next_letter (g.Q.Ports.standing c.room.new.self c.args.to) c.args.to c.outgoing-body.result.0 c.outgoing-body.result.1 in
    let law = g.met.Q.Ports.posted c.room.new.self c.try_post.new.self c.args.to letter c.in-Ok.ensures.accepted.2 c.in-Ok.ensures.accepted.0 in
    let hands = rw next.2 at c.outgoing-body.ensures.half in
    let kind = copy_is_open _ _ _ _ _ hands.1 in
    subst (λ x. ArePortsOf x (g.Q.Ports.standing c.try_post.new.self)) (sym hands.2)
    (ports_post c.args.self.now c.args.to next.0 next.1 c.args.self.now.slots c.outgoing-body.new.self.refusals letter (g.Q.Ports.standing c.room.new.self) (g.Q.Ports.standing c.try_post.new.self) next.2 kind it.unshut law.0 (λ k ne. (law.1 k ne).0)
    (ports_stay c.args.self.now (g.Q.Ports.standing c.args.ports.now) (g.Q.Ports.standing c.room.new.self) (λ k. (kept k).0) c.requires.ports))
