use Rattle.std.proofs.Common.{◌≡◌, ◌<◌, length, take, drop, sym, subst, ◌∙◌, arith}
use Rattle.std.specs.Prelude.{AllPairs}
use Rattle.std.proofs.lemmas.List.{take_at, length-take-le}
use Rattle.cb_selections.specs.RowKeys.{AreKeys}
use Rattle.cb_selections.proofs.RowKeys.{keys_moved, keys_ascend}
use Rattle.cb_selections.proofs.sorted_rows.sort_keys.Goals as goal

pub returns-clause-keys : goal.returns-clause-keys
returns-clause-keys c =
    let count = c.write_keys-count.result in
    let written = c.write_keys-count.new.keys in
    let new = c.sort_unstable.new.self in
    let sorted = c.sort_unstable.ensures in
    let size : length new ≡ count = sorted.len ∙ length-take-le count written (let e = c.write_keys-count.ensures in let m = e.most in let r = e.room in omega (arith, m, r, c.requires.room)) in
    subst (AreKeys c.args.listed.now c.args.rows.now) (sym (take_at new (drop count written) count size))
    (keys_moved c.args.listed.now c.args.rows.now (take count written) new sorted.permutation sorted.sorted c.write_keys-count.ensures.keys)

pub returns-clause-ascending : goal.returns-clause-ascending
returns-clause-ascending c =
    let count = c.write_keys-count.result in
    let written = c.write_keys-count.new.keys in
    let new = c.sort_unstable.new.self in
    let sorted = c.sort_unstable.ensures in
    let size : length new ≡ count = sorted.len ∙ length-take-le count written (let e = c.write_keys-count.ensures in let m = e.most in let r = e.room in omega (arith, m, r, c.requires.room)) in
    subst (AllPairs (λ x y. x < y)) (sym (take_at new (drop count written) count size))
    (keys_ascend c.args.listed.now c.args.rows.now (take count written) new sorted.permutation sorted.sorted c.write_keys-count.ensures.keys)
