use Rattle.std.proofs.Common.{◌≡◌, ◌≤◌, ◌<◌, ◌+◌, ℕ, Bool, true, false, cond, length, get_or, refl, ap, arith}
use Rattle.std.specs.Int.{from_bool}
use Rattle.std.proofs.lemmas.List.{length-set}
use Rattle.std.proofs.lemmas.List.Elements.{All-get_or}
use Rattle.cb_selections.proofs.ListedRows.{listed_none, listed_written, listed_all}
use Rattle.cb_selections.proofs.extracts.write_listed.Goals as goal

one_or_none : (b : Bool) (r : ℕ) → r ≡ from_bool b → r ≡ cond b 1 0
one_or_none true r e = e
one_or_none false r e = e

one_at_most : (b : Bool) (r : ℕ) → r ≡ from_bool b → r ≤ 1
one_at_most true r e = let one : r ≡ 1 = e in omega arith
one_at_most false r e = let none : r ≡ 0 = e in omega arith

pub loop-n-init : goal.loop-n-init
loop-n-init c = record {
  so_far = listed_none c.args.listed.now c.requires.ascending c.args.rows.now c.args.values.now c.requires.count c.requires.rows _ _ refl refl;
  few = omega arith;
  rows_room = c.requires.rows_room;
  values_room = c.requires.values_room;
}

pub loop-n-preserved : goal.loop-n-preserved
loop-n-preserved c =
    let listed = c.args.listed.now in
    let rows = c.args.rows.now in
    let places = c.args.places.now in
    let r = c.requires in
    let n = c.loop-n.n in
    let l = c.loop-n-test.true in
    let count = c.loop-n.count in
    let xs = c.loop-n.kept_rows.items in
    let ws = c.loop-n.kept_values.items in
    let few = c.loop-n.invariant.few in
    let rows_room = c.loop-n.invariant.rows_room in
    let values_room = c.loop-n.invariant.values_room in
    let one = one_at_most _ c.from-count.result c.from-count.ensures in
    let row = get_or rows n 0 in
    record {
      so_far = listed_written listed r.ascending rows c.args.values.now r.count r.rows n l xs ws (length places) count (count + c.from-count.result) places r.places (All-get_or (λ i. i < length places) rows n 0 l r.inside) (omega arith) (omega arith) (ap (λ x. count + x) (one_or_none _ c.from-count.result c.from-count.ensures)) c.loop-n.invariant.so_far;
      few = omega arith;
      rows_room = let same = length-set xs count (get_or places row 0) in omega arith;
      values_room = let same = length-set ws count (get_or c.args.values.now n 0) in omega arith;
    }

pub returns-clause-listed : goal.returns-clause-listed
returns-clause-listed c =
    let r = c.requires in
    listed_all c.args.listed.now r.ascending c.args.rows.now c.args.values.now r.count r.rows c.loop-n.n _ _ (let t = c.loop-n-test.false in omega arith) c.loop-n.invariant.so_far
