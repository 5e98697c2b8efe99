use Rattle.std.proofs.Common.{◌≡◌, ◌<◌, ◌++◌, List, ℕ, length, ap, sym, ◌∙◌, append_assoc, arith, rules}
use Rattle.std.proofs.lemmas.List.Elements.{All-push}
use Rattle.cb_job_output.specs.Rounds.{joined}
use Rattle.cb_job_output.proofs.SharePuts.{joined_push, some_joined}
use Rattle.cb_job_output.proofs.rounds.Dealt.deal.Goals as goal

pub loop-self-preserved : goal.loop-self-preserved
loop-self-preserved g c =
    let i = c.loop-self.invariant in
    let before = c.loop-self.self-inside.shares.items in
    let share = c.in-Some.share in
    let left = c.next_share.new.self in
    let pushed = c.push_reserved.ensures.items in
    record {
      text = ap (λ shares. joined shares ++ left) pushed ∙ ap (λ bytes. bytes ++ left) (joined_push before share) ∙ append_assoc (joined before) share left ∙ ap (λ bytes. joined before ++ bytes) (sym c.in-Some.ensures.text) ∙ i.text;
      some = rw pushed (All-push (λ (part : List ℕ). 0 < length part) before share i.some c.in-Some.ensures.some);
      lines = i.lines;
      room = search rules;
    }

pub returns-clause-none : goal.returns-clause-none
returns-clause-none g c =
    let i = c.loop-self.invariant in
    let shares = c.loop-self.self-inside.shares.items in
    let some : 0 < length (joined shares) = some_joined shares (search arith) i.some in
    λ e. let none : length (joined shares) ≡ 0 = ap length e in absurd (omega (arith, none, some))
