use Rattle.std.proofs.Common.{◌≡◌, ◌<◌, [], length, drop, get_or, refl, arith}
use Rattle.std.proofs.lemmas.List.{nil_from_length}
use Rattle.std.proofs.lemmas.List.Elements.{All-get_or, All-drop}
use Rattle.cb_dcsc.specs.Columns.{row_value}
use Rattle.cb_product.specs.declared.terms.Term.{Term}
use Rattle.cb_product.specs.Terms.{IsTerm, term_value, terms_value}
use Rattle.cb_product.proofs.JoinedTerms.{terms_length-rest, range_length, first_added, two_added, none_added}
use Rattle.cb_product.proofs.RowValues.{row_value-value, row_value-none}
use Rattle.cb_product.proofs.TermSums.{term_value-value, terms_value-value, terms_value-rest}
use Rattle.cb_product.proofs.joins.put_first.Goals as goal

pub put_joined-count-requires-clause-room : goal.put_joined-count-requires-clause-room
put_joined-count-requires-clause-room g c =
    let d : Term = record { row = 0; at = 0; end = 0; scale = 0; before = 0; ends = 0 } in
    let ts = c.args.terms.now in
    let some : 0 < length ts = (let o = c.if-terms-eq1.true in omega arith) in
    let first = terms_length-rest ts 0 d some in
    let short = range_length c.args.rows.now (get_or ts 0 d).at (get_or ts 0 d).end in
    let room = c.requires.room in
    omega (arith, first, short, room)

pub returns-then-terms-eq1-clause-most : goal.returns-then-terms-eq1-clause-most
returns-then-terms-eq1-clause-most g c =
    let d : Term = record { row = 0; at = 0; end = 0; scale = 0; before = 0; ends = 0 } in
    let ts = c.args.terms.now in
    let some : 0 < length ts = (let o = c.if-terms-eq1.true in omega arith) in
    let first = terms_length-rest ts 0 d some in
    let short = range_length c.args.rows.now (get_or ts 0 d).at (get_or ts 0 d).end in
    let most = c.put_joined-count.ensures.most in
    omega (arith, first, short, most)

pub returns-then-terms-eq1-clause-sum : goal.returns-then-terms-eq1-clause-sum
returns-then-terms-eq1-clause-sum g c =
    let s = g.S.Semiring.arithmetic in
    let laws = g.met.S.Semiring.is_semiring in
    let r = c.requires in
    let d : Term = record { row = 0; at = 0; end = 0; scale = 0; before = 0; ends = 0 } in
    let ts = c.args.terms.now in
    let rows = c.args.rows.now in
    let values = c.args.values.now in
    let some : 0 < length ts = (let o = c.if-terms-eq1.true in omega arith) in
    let t = get_or ts 0 d in
    let is = All-get_or (IsTerm s rows) ts 0 d some r.terms in
    λ i. first_added s laws (row_value s.zero c.args.own_rows.now c.args.own_values.now i) (term_value s rows values i t) (terms_value s rows values i (drop 1 ts)) _ (terms_value s rows values i ts)
    (row_value-value s laws c.args.own_rows.now c.args.own_values.now i r.own_values) (term_value-value s laws rows values r.values i t is.scale) (terms_value-value s laws rows values r.values i (drop 1 ts) (All-drop (IsTerm s rows) 1 ts r.terms))
    (c.put_joined-count.ensures.sum i) (terms_value-rest s laws rows values r.values i 0 ts d some)

pub returns-then-is_empty-clause-sum : goal.returns-then-is_empty-clause-sum
returns-then-is_empty-clause-sum g c =
    let s = g.S.Semiring.arithmetic in
    let laws = g.met.S.Semiring.is_semiring in
    λ i. none_added s laws (row_value s.zero c.args.own_rows.now c.args.own_values.now i) (terms_value s c.args.rows.now c.args.values.now i c.args.terms.now) (row_value s.zero [] [] i) _
    (row_value-value s laws c.args.own_rows.now c.args.own_values.now i c.requires.own_values) (row_value-none s.zero [] [] i refl) (c.put_rest-count.ensures.sum i)

pub put_joined-count-requires-2-clause-room : goal.put_joined-count-requires-2-clause-room
put_joined-count-requires-2-clause-room g c =
    let d : Term = record { row = 0; at = 0; end = 0; scale = 0; before = 0; ends = 0 } in
    let ts = c.args.terms.now in
    let two : 1 < length ts = (let o = c.if-terms-eq1.false in let e = c.if-is_empty.false in let f = c.is_empty.ensures in grind arith) in
    let first = terms_length-rest ts 0 d (omega (arith, two)) in
    let second = terms_length-rest ts 1 d two in
    let short = range_length c.args.rows.now (get_or ts 0 d).at (get_or ts 0 d).end in
    let short_too = range_length c.args.rows.now (get_or ts 1 d).at (get_or ts 1 d).end in
    let room = c.requires.room in
    omega (arith, first, second, short, short_too, room)

pub returns-clause-most : goal.returns-clause-most
returns-clause-most g c =
    let d : Term = record { row = 0; at = 0; end = 0; scale = 0; before = 0; ends = 0 } in
    let ts = c.args.terms.now in
    let two : 1 < length ts = (let o = c.if-terms-eq1.false in let e = c.if-is_empty.false in let f = c.is_empty.ensures in grind arith) in
    let first = terms_length-rest ts 0 d (omega (arith, two)) in
    let second = terms_length-rest ts 1 d two in
    let short = range_length c.args.rows.now (get_or ts 0 d).at (get_or ts 0 d).end in
    let short_too = range_length c.args.rows.now (get_or ts 1 d).at (get_or ts 1 d).end in
    let most = c.put_joined-count-2.ensures.most in
    omega (arith, first, second, short, short_too, most)

pub returns-clause-sum : goal.returns-clause-sum
returns-clause-sum g c =
    let s = g.S.Semiring.arithmetic in
    let laws = g.met.S.Semiring.is_semiring in
    let r = c.requires in
    let d : Term = record { row = 0; at = 0; end = 0; scale = 0; before = 0; ends = 0 } in
    let ts = c.args.terms.now in
    let rows = c.args.rows.now in
    let values = c.args.values.now in
    let two : 1 < length ts = (let o = c.if-terms-eq1.false in let e = c.if-is_empty.false in let f = c.is_empty.ensures in grind arith) in
    let some : 0 < length ts = omega (arith, two) in
    let none : length c.args.own_rows.now ≡ 0 = (let e = c.if-not-is_empty.false in let f = c.is_empty-else-is_empty.ensures in grind arith) in
    let is = All-get_or (IsTerm s rows) ts 0 d some r.terms in
    let is_too = All-get_or (IsTerm s rows) ts 1 d two r.terms in
    λ i. two_added s laws (row_value s.zero c.args.own_rows.now c.args.own_values.now i) (term_value s rows values i (get_or ts 0 d)) (term_value s rows values i (get_or ts 1 d)) (terms_value s rows values i (drop 2 ts)) _ (terms_value s rows values i (drop 1 ts)) (terms_value s rows values i ts)
    (row_value-none s.zero c.args.own_rows.now c.args.own_values.now i (nil_from_length _ none)) (term_value-value s laws rows values r.values i (get_or ts 0 d) is.scale) (term_value-value s laws rows values r.values i (get_or ts 1 d) is_too.scale) (terms_value-value s laws rows values r.values i (drop 2 ts) (All-drop (IsTerm s rows) 2 ts r.terms))
    (c.put_joined-count-2.ensures.sum i) (terms_value-rest s laws rows values r.values i 1 ts d two) (terms_value-rest s laws rows values r.values i 0 ts d some)
