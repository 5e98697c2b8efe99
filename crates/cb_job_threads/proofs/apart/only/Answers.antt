use Rattle.std.proofs.Common.{◌<◌, length, get_or, sym, subst, arith}
use Rattle.std.specs.Fork.{ChangesAt}
use Rattle.std.proofs.lemmas.List.{get_or-set_same, get_or_default}
use Rattle.cb_job_threads.proofs.apart.only.Goals as goal

pub returns : goal.returns
returns g c = record {
  first = λ d.
      let xs = c.args.items.now in
      let y = c.call.new.item in
      let some : 0 < length xs = omega (arith, c.requires.one) in
      subst (λ z. ChangesAt g.F.Fn c.args.f.now c.args.number (get_or xs 0 d) z) (sym (get_or-set_same xs 0 y d some))
      (subst (λ x. ChangesAt g.F.Fn c.args.f.now c.args.number x y) (get_or_default xs 0 _ d some) c.call.ensures);
}
