use Rattle.std.proofs.Common.{◌≡◌, ◌<◌, ◌≤◌, ◌+◌, length, drop, get_or, refl, arith}
use Rattle.std.proofs.lemmas.List.Elements.{All-get_or, All-drop}
use Rattle.cb_product.specs.SparseColumn.{first_entries}
use Rattle.cb_product.specs.declared.terms.Term.{Term}
use Rattle.cb_product.specs.Terms.{IsTerm}
use Rattle.cb_product.proofs.ColumnSoFar.{column_value, so_far_more, so_far_all}
use Rattle.cb_product.proofs.JoinedTerms.{terms_length-rest}
use Rattle.cb_product.proofs.TermSums.{term_value-value, terms_value-value, terms_value-rest, terms_value-end}
use Rattle.cb_product.proofs.joins.put_terms.Goals as goal

pub loop-n-init : goal.loop-n-init
loop-n-init g c =
    let e = c.put_first-first.ensures in
    record {
      long = e.length;
      values_long = e.values_length;
      half_long = refl;
      half_values_long = refl;
      within = e.within;
      even = e.even;
      most = e.most;
      column = e.column;
      so_far = record { values = column_value g.S.Semiring.arithmetic g.met.S.Semiring.is_semiring _ e.column; sums = e.sum };
    }

pub put_term-half-requires-clause-room : goal.put_term-half-requires-clause-room
put_term-half-requires-clause-room g c =
    let d : Term = record { row = 0; at = 0; end = 0; scale = 0; before = 0; ends = 0 } in
    let rest = terms_length-rest c.args.terms.now c.loop-n.n d (let l = c.loop-n-test.true in omega arith) in
    omega (arith, rest, c.loop-n.invariant.most, c.requires.half_room, c.loop-n.invariant.half_long)

pub put_term-count-requires-clause-room : goal.put_term-count-requires-clause-room
put_term-count-requires-clause-room g c =
    let d : Term = record { row = 0; at = 0; end = 0; scale = 0; before = 0; ends = 0 } in
    let rest = terms_length-rest c.args.terms.now c.loop-n.n d (let l = c.loop-n-test.true in omega arith) in
    let rest_too = terms_length-rest c.args.terms.now (c.loop-n.n + 1) d c.loop-n-test.true in
    omega (arith, rest, rest_too, c.put_term-half.ensures.most, c.loop-n.invariant.most, c.requires.room, c.loop-n.invariant.long)

pub put_term-count-requires-clause-within : goal.put_term-count-requires-clause-within
put_term-count-requires-clause-within g c =
    let d : Term = record { row = 0; at = 0; end = 0; scale = 0; before = 0; ends = 0 } in
    let rest = terms_length-rest c.args.terms.now c.loop-n.n d (let l = c.loop-n-test.true in omega arith) in
    omega (arith, rest, c.put_term-half.ensures.most, c.put_term-half.ensures.length, c.loop-n.invariant.most, c.requires.half_room, c.loop-n.invariant.half_long)

pub put_term-count-requires-clause-values_within : goal.put_term-count-requires-clause-values_within
put_term-count-requires-clause-values_within g c =
    let d : Term = record { row = 0; at = 0; end = 0; scale = 0; before = 0; ends = 0 } in
    let rest = terms_length-rest c.args.terms.now c.loop-n.n d (let l = c.loop-n-test.true in omega arith) in
    omega (arith, rest, c.put_term-half.ensures.most, c.put_term-half.ensures.values_length, c.loop-n.invariant.most, c.requires.half_room, c.requires.half_values_room, c.loop-n.invariant.half_values_long)

pub loop-n-preserved : goal.loop-n-preserved
loop-n-preserved g c =
    let s = g.S.Semiring.arithmetic in
    let laws = g.met.S.Semiring.is_semiring in
    let r = c.requires in
    let rows = c.args.rows.now in
    let values = c.args.values.now in
    let ts = c.args.terms.now in
    let inv = c.loop-n.invariant in
    let n = c.loop-n.n in
    let d : Term = record { row = 0; at = 0; end = 0; scale = 0; before = 0; ends = 0 } in
    let two = c.loop-n-test.true in
    let one : n < length ts = omega arith in
    let rest = terms_length-rest ts n d one in
    let plus : n + 1 + 1 ≡ n + 2 = omega arith in
    let rest_one = terms_length-rest ts (n + 1) d two in
    let rest_too = rw plus at rest_one in
    let e = c.put_term-half.ensures in
    let f = c.put_term-count.ensures in
    let is = All-get_or (IsTerm s rows) ts n d one r.terms in
    let is_too = All-get_or (IsTerm s rows) ts (n + 1) d two r.terms in
    let half = so_far_more s laws _ _ (first_entries c.put_term-half.result c.put_term-half.new.out_rows c.put_term-half.new.out_values) _ _ _ inv.so_far (λ i. terms_value-rest s laws rows values r.values i n ts d one)
    (λ i. term_value-value s laws rows values r.values i (get_or ts n d) is.scale)
    (λ i. terms_value-value s laws rows values r.values i (drop (n + 1) ts) (All-drop (IsTerm s rows) (n + 1) ts r.terms)) e.sum in
    record {
      long = omega (arith, f.length, inv.long);
      values_long = omega (arith, f.values_length, inv.values_long);
      half_long = omega (arith, e.length, inv.half_long);
      half_values_long = omega (arith, e.values_length, inv.half_values_long);
      within = omega arith;
      even = (let even = inv.even in omega arith);
      most = omega (arith, rest, rest_too, e.most, f.most, inv.most);
      column = f.column;
      so_far = so_far_more s laws _ _ _ _ _ _ half (λ i. let split = terms_value-rest s laws rows values r.values i (n + 1) ts d two in rw plus at split)
          (λ i. term_value-value s laws rows values r.values i (get_or ts (n + 1) d) is_too.scale)
          (λ i. terms_value-value s laws rows values r.values i (drop (n + 2) ts) (All-drop (IsTerm s rows) (n + 2) ts r.terms)) f.sum;
    }

pub returns-clause-sum : goal.returns-clause-sum
returns-clause-sum g c =
    let s = g.S.Semiring.arithmetic in
    let laws = g.met.S.Semiring.is_semiring in
    let ts = c.args.terms.now in
    let n = c.loop-n.n in
    let all : length ts ≤ n = (let e = c.loop-n.invariant.even in let w = c.loop-n.invariant.within in let l = c.loop-n-test.false in omega arith) in
    so_far_all s laws _ _ _ c.loop-n.invariant.so_far (λ i. terms_value-end s laws c.args.rows.now c.args.values.now c.requires.values i n ts all)
