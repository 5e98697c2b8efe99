use Rattle.std.proofs.Common.{rules, ◌≡◌, length}
use Rattle.std.specs.Fork.{ChangesAt}
use Rattle.cb_job_threads.proofs.ChangedItems.{all_changed}
use Rattle.cb_job_threads.proofs.apart.+apart.Goals as goal

pub each_apart-returns : goal.each_apart-returns
each_apart-returns g t c =
    let cut = c.split_at_mut-front in
    let one : length cut.result.1.now ≡ 1 = search rules in
    record { each = all_changed (ChangesAt g.F.Fn c.args.f.now) cut.result.0.now cut.result.1.now c.both_apart.new.front c.both_apart.new.back one (search rules) c.both_apart.ensures.front.each (rw cut.ensures.front_len c.both_apart.ensures.back.first) c.args.items.now cut.ensures.value }
