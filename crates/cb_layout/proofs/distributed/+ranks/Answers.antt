use Rattle.std.proofs.Common.{rules, ◌≡◌, length}
use Rattle.cb_layout.proofs.CutBlocks.{front_appended, back_appended, all_appended, on_ok_both}
use Rattle.cb_layout.proofs.distributed.+ranks.Goals as goal

pub append_apart-append_both-requires-clause-front : goal.append_apart-append_both-requires-clause-front
append_apart-append_both-requires-clause-front g t c κs within =
    let blocks = c.split_at_mut-front in
    let others = c.split_at_mut-front_others in
    let same : length others.result.0.now ≡ length blocks.result.0.now = search rules in
    let one : length blocks.result.1.now ≡ 1 = search rules in
    front_appended g.S.Semiring.arithmetic c.args.blocks.now c.args.others.now blocks.result.0.now blocks.result.1.now others.result.0.now others.result.1.now blocks.ensures.value others.ensures.value same one c.requires

pub append_apart-append_both-requires-clause-back : goal.append_apart-append_both-requires-clause-back
append_apart-append_both-requires-clause-back g t c κs within =
    let blocks = c.split_at_mut-front in
    let others = c.split_at_mut-front_others in
    let same : length others.result.0.now ≡ length blocks.result.0.now = search rules in
    let one : length blocks.result.1.now ≡ 1 = search rules in
    back_appended g.S.Semiring.arithmetic c.args.blocks.now c.args.others.now blocks.result.0.now blocks.result.1.now others.result.0.now others.result.1.now blocks.ensures.value others.ensures.value same one c.requires

pub append_apart-returns : goal.append_apart-returns
append_apart-returns g t c =
    let blocks = c.split_at_mut-front in
    let others = c.split_at_mut-front_others in
    let same : length others.result.0.now ≡ length blocks.result.0.now = search rules in
    let one : length blocks.result.1.now ≡ 1 = search rules in
    on_ok_both c.append_both.result _ _ _
    (all_appended g.S.Semiring.arithmetic c.args.blocks.now c.args.others.now blocks.result.0.now blocks.result.1.now others.result.0.now others.result.1.now blocks.ensures.value others.ensures.value same one c.append_both.new.front c.append_both.new.back c.requires)
    c.append_both.ensures.front c.append_both.ensures.back
