use Rattle.std.proofs.Common.{rules, ◌≡◌, Some, Ok, Err, subst}
use Rattle.cb_rank_driven.specs.declared.driven_ranks.NoBlock.{NoBlock}
use Rattle.cb_rank_driven.specs.declared.driven_ranks.NoBlock.TheVariants as none_as
use Rattle.cb_rank_driven.specs.DrivenRanks.{DrivenView}
use Rattle.cb_rank_driven.specs.Joined.{IsLeft}
use Rattle.cb_rank_process.specs.Processes.{TaskView}
use Rattle.cb_rank_process.proofs.KeptParts.{share_of_process}
use Rattle.cb_rank_process.proofs.processes.Process.end.Goals as goal

pub returns-in-Ok-clause-keeps : goal.returns-in-Ok-clause-keeps
returns-in-Ok-clause-keeps g c =
    let actual : TaskView = record { rank = c.task.inside.rank; slot = c.task.inside.slot; shape = c.task.inside.shape } in
    let is : c.args.self.now.task ≡ Some actual = search rules in
    let same : c.task.inside.rank.rank.me ≡ c.args.self.now.me = search rules in
    record {
      task = actual;
      block = c.in-Ok.block;
      was = is;
      left = c.in-Ok.ensures.left;
      part = λ part first courses one. share_of_process {R = DrivenView} g.S.Semiring.arithmetic c.args.self.now actual is same c.want-next.ensures.driven.rank (Ok c.in-Ok.block) c.in-Ok.ensures.left.1 part first courses actual is one;
      after = search rules;
    }

pub returns-in-Err-Lost-clause-lost : goal.returns-in-Err-Lost-clause-lost
returns-in-Err-Lost-clause-lost g c = λ part first courses task was one.
    let actual : TaskView = record { rank = c.task.inside.rank; slot = c.task.inside.slot; shape = c.task.inside.shape } in
    let is : c.args.self.now.task ≡ Some actual = search rules in
    let same : c.task.inside.rank.rank.me ≡ c.args.self.now.me = search rules in
    let left : IsLeft c.task.inside.rank c.task.inside.slot (Err (none_as.Lost c.in-Err-Lost.origin)) = subst (λ (n : NoBlock DrivenView). IsLeft c.task.inside.rank c.task.inside.slot (Err n)) c.in-Err-Lost.field-0-is c.in-Err-Lost.ensures.left in
    share_of_process {R = DrivenView} g.S.Semiring.arithmetic c.args.self.now actual is same c.want-next.ensures.driven.rank (Err (none_as.Lost c.in-Err-Lost.origin)) left.1 part first courses task was one
