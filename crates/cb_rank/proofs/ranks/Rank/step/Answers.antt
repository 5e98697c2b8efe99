use Rattle.std.proofs.Common.{sym, ◌∙◌, refl, subst}
use Rattle.cb_plan.specs.declared.acts.Half.TheVariants as half_is
use Rattle.std.specs.Prelude.{slice_set}
use Rattle.cb_plan.specs.Meaning.{target_of}
use Rattle.cb_rank.specs.Ranks.{ArePortsOf}
use Rattle.cb_rank.proofs.WantedHalf.{wants_work}
use Rattle.cb_rank.proofs.Ports.{ports_quiet}
use Rattle.cb_rank.proofs.ranks.Rank.step.Goals as goal

pub returns-in-Work-clause-ports : goal.returns-in-Work-clause-ports
returns-in-Work-clause-ports g c =
    let next = wants_work _ (sym c.want.ensures.value ∙ c.in-Work.is) in
    let works = rw next.1 at c.work.ensures.half in
    subst (λ x. ArePortsOf x (g.Q.Ports.standing c.args.ports.now)) (sym works.2)
    (ports_quiet c.args.self.now (half_is.Work next.0) (slice_set c.args.self.now.slots (target_of next.0) works.0) c.work.new.self.refusals (g.Q.Ports.standing c.args.ports.now) (g.Q.Ports.standing c.args.ports.now) next.1 tt (λ k. refl) c.requires)
