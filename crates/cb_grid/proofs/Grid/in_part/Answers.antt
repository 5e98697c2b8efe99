use Rattle.std.proofs.Common.{◌≡◌, ◌<◌, ◌≤◌, ◌%◌, ◌-◌, ◌*◌, sym, ap, ◌∙◌, ⊎_elim, arith}
use Rattle.std.proofs.Math.Nat.{mod-eq-sub-mod, mod-eq_of_lt}
use Rattle.std.proofs.lemmas.Bool.{cases_lt}
use Rattle.cb_grid.proofs.Grid.in_part.Goals as goal

pub returns-then-local-length-clause-place : goal.returns-then-local-length-clause-place
returns-then-local-length-clause-place c =
    let p = c.args.place in
    let n = c.whole_part-length.result in
    let k = c.from-second.result in
    let told = c.from-second.ensures in
    let near = c.if-local-length.true in
    let same : p - k * n ≡ p % n = ⊎_elim
    (λ (l : p < n). let z : k ≡ 0 = grind (arith) in (let e : p - k * n ≡ p = rw z (omega arith) in e ∙ sym (mod-eq_of_lt l)))
    (λ (l : n ≤ p). let z : k ≡ 1 = grind (arith) in (let e : p - k * n ≡ p - n = rw z (omega arith) in let m : p - n < n = omega arith in e ∙ sym (mod-eq-sub-mod l ∙ mod-eq_of_lt m)))
    (cases_lt p n) in
    same ∙ ap (λ n. p % n) c.whole_part-length.ensures.value
