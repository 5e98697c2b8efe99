use Rattle.std.proofs.Common.{rules, ◌≡◌, ◌<◌, length}
use Rattle.std.specs.Prelude.{IfErr}
use Rattle.std.proofs.lemmas.Result.{IfErr-weaker}
use Rattle.cb_operations.specs.Operands.{lent_in}
use Rattle.cb_kept.specs.Kept.{IsMixed, Keeps}
use Rattle.cb_kept.specs.CallsOver.{kept_faults_over}
use Rattle.cb_kept.proofs.KeptFirsts.{mixed_at, on_two, on_three, two, three}
use Rattle.cb_kept.proofs.kept_calls.call_over.Goals as goal

pub returns-in_err-a-in-len1 : goal.returns-in_err-a-in-len1
returns-in_err-a-in-len1 g c =
    let s = g.S.Semiring.arithmetic in
    let ks = c.args.operands.now in
    let faults = g.C.KeptCall.faults c.args.call.now in
    let l : 0 < length ks = search rules in
    let k = c.a-item.result in
    let r = c.from_residual.result in
    let first : IfErr r (IsMixed g.S.Keep.name k.now) = search rules in
    let h : IfErr r (kept_faults_over g.S.Keep.name s faults (lent_in ks)) = IfErr-weaker r (IsMixed g.S.Keep.name k.now) _ (mixed_at g.S.Keep.name _ ks 0 k k c.a-item.is l) first in
    search rules

pub returns-in_err-a-in-len2 : goal.returns-in_err-a-in-len2
returns-in_err-a-in-len2 g c =
    let s = g.S.Semiring.arithmetic in
    let ks = c.args.operands.now in
    let faults = g.C.KeptCall.faults c.args.call.now in
    let l : 0 < length ks = search rules in
    let k = c.a-item-then-operands-lt3.result in
    let r = c.from_residual-in_err-a-in-len2.result in
    let first : IfErr r (IsMixed g.S.Keep.name k.now) = search rules in
    let h : IfErr r (kept_faults_over g.S.Keep.name s faults (lent_in ks)) = IfErr-weaker r (IsMixed g.S.Keep.name k.now) _ (mixed_at g.S.Keep.name _ ks 0 k k c.a-item-then-operands-lt3.is l) first in
    search rules

pub returns-in_err-b-in-len2 : goal.returns-in_err-b-in-len2
returns-in_err-b-in-len2 g c =
    let s = g.S.Semiring.arithmetic in
    let ks = c.args.operands.now in
    let faults = g.C.KeptCall.faults c.args.call.now in
    let l : 1 < length ks = search rules in
    let k = c.b-item.result in
    let r = c.from_residual-in_err-b-in-len2.result in
    let first : IfErr r (IsMixed g.S.Keep.name k.now) = search rules in
    let h : IfErr r (kept_faults_over g.S.Keep.name s faults (lent_in ks)) = IfErr-weaker r (IsMixed g.S.Keep.name k.now) _ (mixed_at g.S.Keep.name _ ks 1 k k c.b-item.is l) first in
    search rules

pub returns-in_err-a-in-len3 : goal.returns-in_err-a-in-len3
returns-in_err-a-in-len3 g c =
    let s = g.S.Semiring.arithmetic in
    let ks = c.args.operands.now in
    let faults = g.C.KeptCall.faults c.args.call.now in
    let l : 0 < length ks = search rules in
    let k = c.a-item-then-operands-lt4.result in
    let r = c.from_residual-in_err-a-in-len3.result in
    let first : IfErr r (IsMixed g.S.Keep.name k.now) = search rules in
    let h : IfErr r (kept_faults_over g.S.Keep.name s faults (lent_in ks)) = IfErr-weaker r (IsMixed g.S.Keep.name k.now) _ (mixed_at g.S.Keep.name _ ks 0 k k c.a-item-then-operands-lt4.is l) first in
    search rules

pub returns-in_err-b-in-len3 : goal.returns-in_err-b-in-len3
returns-in_err-b-in-len3 g c =
    let s = g.S.Semiring.arithmetic in
    let ks = c.args.operands.now in
    let faults = g.C.KeptCall.faults c.args.call.now in
    let l : 1 < length ks = search rules in
    let k = c.b-item-then-operands-lt4.result in
    let r = c.from_residual-in_err-b-in-len3.result in
    let first : IfErr r (IsMixed g.S.Keep.name k.now) = search rules in
    let h : IfErr r (kept_faults_over g.S.Keep.name s faults (lent_in ks)) = IfErr-weaker r (IsMixed g.S.Keep.name k.now) _ (mixed_at g.S.Keep.name _ ks 1 k k c.b-item-then-operands-lt4.is l) first in
    search rules

pub returns-in_err-c-in-len3 : goal.returns-in_err-c-in-len3
returns-in_err-c-in-len3 g c =
    let s = g.S.Semiring.arithmetic in
    let ks = c.args.operands.now in
    let faults = g.C.KeptCall.faults c.args.call.now in
    let l : 2 < length ks = search rules in
    let k = c.c-item.result in
    let r = c.from_residual-in_err-c-in-len3.result in
    let first : IfErr r (IsMixed g.S.Keep.name k.now) = search rules in
    let h : IfErr r (kept_faults_over g.S.Keep.name s faults (lent_in ks)) = IfErr-weaker r (IsMixed g.S.Keep.name k.now) _ (mixed_at g.S.Keep.name _ ks 2 k k c.c-item.is l) first in
    search rules

pub returns-in_ok-b-in-len2 : goal.returns-in_ok-b-in-len2
returns-in_ok-b-in-len2 g c =
    let name = g.S.Keep.name in
    let s = g.S.Semiring.arithmetic in
    let ks = c.args.operands.now in
    let a = c.a-item-then-operands-lt3.result in
    let b = c.b-item.result in
    let l : length ks ≡ 2 = search rules in
    let j : Keeps name c.in_ok-a-in-len2.a.now a.now = search rules in
    let k : Keeps name c.in_ok-b-in-len2.b.now b.now = search rules in
    on_two name (g.C.KeptCall.faults c.args.call.now s) (g.C.KeptCall.gives c.args.call.now name s) ks a b c.in_ok-a-in-len2.a.now c.in_ok-b-in-len2.b.now c.over-in-len2.result
    (two ks a b a b c.a-item-then-operands-lt3.is c.b-item.is l) j k c.over-in-len2.ensures

pub returns-in_ok-c-in-len3 : goal.returns-in_ok-c-in-len3
returns-in_ok-c-in-len3 g c =
    let name = g.S.Keep.name in
    let s = g.S.Semiring.arithmetic in
    let ks = c.args.operands.now in
    let a = c.a-item-then-operands-lt4.result in
    let b = c.b-item-then-operands-lt4.result in
    let d = c.c-item.result in
    let l : length ks ≡ 3 = search rules in
    let j : Keeps name c.in_ok-a-in-len3.a.now a.now = search rules in
    let k : Keeps name c.in_ok-b-in-len3.b.now b.now = search rules in
    let m : Keeps name c.in_ok-c-in-len3.c.now d.now = search rules in
    on_three name (g.C.KeptCall.faults c.args.call.now s) (g.C.KeptCall.gives c.args.call.now name s) ks a b d c.in_ok-a-in-len3.a.now c.in_ok-b-in-len3.b.now c.in_ok-c-in-len3.c.now c.over-in-len3.result
    (three ks a b d a b d c.a-item-then-operands-lt4.is c.b-item-then-operands-lt4.is c.c-item.is l) j k m c.over-in-len3.ensures
