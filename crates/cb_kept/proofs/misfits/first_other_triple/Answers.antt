use Rattle.std.proofs.Common.{rules, ◌<◌, length, map, refl, sym, subst}
use Rattle.cb_semirings.specs.Arithmetic.{IsValue}
use Rattle.cb_kept.specs.declared.triples.Triple.{Triple}
use Rattle.cb_kept.specs.Misfits.{IsOther}
use Rattle.cb_kept.proofs.FirstMisfits.{one_more, value_at}
use Rattle.cb_kept.proofs.misfits.first_other_triple.Goals as goal

pub loop-n-preserved : goal.loop-n-preserved
loop-n-preserved g c =
    let ts = c.args.triples.now in
    let n = c.loop-n.n in
    let l : n < length ts = search rules in
    let e = value_at ts n (record { row = 0; column = 0; value = 0 }) l in
    one_more (IsOther g.S.Semiring.arithmetic (map (λ (t : Triple). t.value) ts)) n c.loop-n.invariant (λ q. q (subst (IsValue g.S.Semiring.arithmetic) (sym e) (c.if-not-is_value.ensures.0 refl)))
