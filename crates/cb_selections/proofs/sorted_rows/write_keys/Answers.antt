use Rattle.std.proofs.Common.{◌≡◌, ◌≤◌, ◌<◌, ◌+◌, ◌*◌, ℕ, Bool, true, false, cond, length, get_or, refl, ap, ◌∙◌, arith}
use Rattle.std.specs.Int.{from_bool}
use Rattle.std.proofs.lemmas.List.{length-set}
use Rattle.std.proofs.lemmas.List.Elements.{All-get_or}
use Rattle.cb_selections.specs.declared.sorted_rows.TheConstants.{ENTRIES}
use Rattle.cb_selections.proofs.RowKeys.{place_below, keys_none, keys_written, keys_all}
use Rattle.cb_selections.proofs.sorted_rows.write_keys.Goals as goal

one_or_none : (b : Bool) (r : ℕ) → r ≡ from_bool b → r ≡ cond b 1 0
one_or_none true r e = e
one_or_none false r e = e

one_at_most : (b : Bool) (r : ℕ) → r ≡ from_bool b → r ≤ 1
one_at_most true r e = let one : r ≡ 1 = e in omega arith
one_at_most false r e = let none : r ≡ 0 = e in omega arith

pub loop-n-init : goal.loop-n-init
loop-n-init c = record { so_far = keys_none c.args.listed.now c.args.rows.now _ refl; few = omega arith; room = refl }

pub overflow_add-keys : goal.overflow_add-keys
overflow_add-keys c =
    let below = place_below c.args.rows.now c.requires.rows c.loop-n.n c.loop-n-test.true in
    omega arith

pub loop-n-preserved : goal.loop-n-preserved
loop-n-preserved c =
    let listed = c.args.listed.now in
    let rows = c.args.rows.now in
    let places = c.args.places.now in
    let r = c.requires in
    let n = c.loop-n.n in
    let l = c.loop-n-test.true in
    let count = c.loop-n.count in
    let keys = c.loop-n.keys in
    let few = c.loop-n.invariant.few in
    let room = c.loop-n.invariant.room in
    let one = one_at_most _ c.from-count.result c.from-count.ensures in
    let row = get_or rows n 0 in
    let below = place_below rows r.rows n l in
    record {
      so_far = keys_written listed rows n l (omega arith) keys (length places) count (count + c.from-count.result) places r.places (All-get_or (λ i. i < length places) rows n 0 l r.inside) (omega arith) (ap (λ x. count + x) (one_or_none _ c.from-count.result c.from-count.ensures)) c.loop-n.invariant.so_far;
      few = omega arith;
      room = length-set keys count (get_or places row 0 * ENTRIES + n) ∙ room;
    }

pub returns-clause-keys : goal.returns-clause-keys
returns-clause-keys c = keys_all c.args.listed.now c.args.rows.now c.loop-n.n _ (let t = c.loop-n-test.false in let u = c.loop-n.auto.n-end in omega arith) c.loop-n.invariant.so_far
