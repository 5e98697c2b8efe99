use Rattle.std.proofs.Common.{◌≡◌, ◌++◌, ◌∙◌, [], true, false, refl, ap, arith}
use Rattle.std.specs.Prelude.{flat_map}
use Rattle.std.specs.List.{range_with_len}
use Rattle.std.proofs.lemmas.Bool.Decides.{nat_tests}
use Rattle.cb_plan.specs.Checks.{slots_in}
use Rattle.cb_plan.specs.Closings.{closings}
use Rattle.cb_plan.specs.Programs.{project_from, closing_halves}
use Rattle.cb_plan.proofs.ClosingHalves.{closing_projected}
use Rattle.cb_plan.proofs.ProjectionSteps.{act_is_sound, next_projects, all_projected, rest_projected}
use Rattle.cb_plan.proofs.StoredActs.{is_inside, same_element}
use Rattle.cb_plan.proofs.check_states.CheckState.append_halves.Goals as goal

pub half_of-requires : goal.half_of-requires
half_of-requires c =
    let acts = c.args.acts.now in
    let rest = closings c.args.self.now.ranks c.args.closes in
    let i = c.loop-act.act-index in
    act_is_sound c.args.self.now.ranks (acts ++ rest) c.args.rank i c.loop-act.self c.loop-act.halves.items _ c.loop-act.invariant c.act-item.result (is_inside acts rest i (omega arith)) (same_element acts rest i c.act-item.result (omega arith) c.act-item.is)

pub pass-requires : goal.pass-requires
pass-requires c =
    let acts = c.args.acts.now in
    let rest = closings c.args.self.now.ranks c.args.closes in
    let i = c.loop-act.act-index in
    act_is_sound c.args.self.now.ranks (acts ++ rest) c.args.rank i c.loop-act.self c.loop-act.halves.items _ c.loop-act.invariant c.act-item.result (is_inside acts rest i (omega arith)) (same_element acts rest i c.act-item.result (omega arith) c.act-item.is)

pub loop-act-preserved : goal.loop-act-preserved
loop-act-preserved c =
    let acts = c.args.acts.now in
    let rest = closings c.args.self.now.ranks c.args.closes in
    let i = c.loop-act.act-index in
    next_projects c.args.self.now.ranks (acts ++ rest) c.args.rank i c.loop-act.self c.loop-act.halves.items _ c.loop-act.invariant c.act-item.result (is_inside acts rest i (omega arith)) (same_element acts rest i c.act-item.result (omega arith) c.act-item.is) c.half_of.result c.pass.new.self c.append_half.new.halves.items c.half_of.ensures c.pass.ensures c.in_ok-append_half.ensures

pub returns-then-not-closes : goal.returns-then-not-closes
returns-then-not-closes c =
    let rest = closings c.args.self.now.ranks c.args.closes in
    let not : c.args.closes ≡ false = grind (arith, nat_tests) in
    let none : rest ≡ [] = rw not refl in
    all_projected c.args.self.now.ranks c.args.acts.now rest c.args.rank c.loop-act.act-index c.loop-act.self c.loop-act.halves.items _ c.loop-act.invariant (omega arith) (omega arith) none

pub returns : goal.returns
returns c =
    let o = c.loop-act.self in
    let ranks = c.args.self.now.ranks in
    let rest = closings ranks c.args.closes in
    let closes : c.args.closes ≡ true = grind (arith, nat_tests) in
    let all : project_from (slots_in o.slots) rest c.args.rank ≡ flat_map (closing_halves ranks c.args.rank) (range_with_len 0 ranks) =
    rw closes (closing_projected c.args.rank (slots_in o.slots) ranks c.requires.rank) in
    let same : c.ranks.result ≡ ranks = c.ranks.ensures ∙ c.loop-act.invariant.ranks_are in
    c.in_ok-append_closing.ensures
    ∙ ap (λ n. c.loop-act.halves.items ++ flat_map (closing_halves n c.args.rank) (range_with_len 0 n)) same
    ∙ rest_projected ranks c.args.acts.now rest c.args.rank c.loop-act.act-index o c.loop-act.halves.items _ c.loop-act.invariant (omega arith) (omega arith) _ all
