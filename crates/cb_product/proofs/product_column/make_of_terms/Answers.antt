use Rattle.std.proofs.Common.{cond, length, ap, ◌∙◌, arith}
use Rattle.std.specs.Prelude.{◌==◌}
use Rattle.cb_matrix.specs.Sparse.{Extent}
use Rattle.cb_product.specs.InColumns.{is_among}
use Rattle.cb_product.specs.Marks.{mark_of, MarksNone}
use Rattle.cb_product.specs.Terms.{terms_at}
use Rattle.cb_product.proofs.Written.{written}
use Rattle.cb_product.proofs.ExcludedMarks.{marked_as, unmarked_again}
use Rattle.cb_product.proofs.product_column.make_of_terms.Goals as goal

pub make_dense_outside-requires-clause-room : goal.make_dense_outside-requires-clause-room
make_dense_outside-requires-clause-room g c =
    let same = c.deref.ensures.value ∙ written c.make_room.new.words.len c.set_marks.new.words c.make_room.new.words.items (c.set_marks.ensures.length ∙ c.deref_mut.ensures.len) in
    let long = ap length same ∙ c.set_marks.ensures.length ∙ ap length c.deref_mut.ensures.value in
    let rows = c.rows.ensures.value ∙ ap (λ (e : Extent). e.rows) c.shape.ensures.shape in
    let room = c.in_ok-make_room.ensures.room in
    omega arith

pub returns-clause-none : goal.returns-clause-none
returns-clause-none g c =
    let words = c.make_room.new.words in
    let first = written words.len c.set_marks.new.words words.items (c.set_marks.ensures.length ∙ c.deref_mut.ensures.len) in
    let second = written words.len c.set_marks-2.new.words _ (c.set_marks-2.ensures.length ∙ c.deref_mut-2.ensures.len) in
    let none : MarksNone c.deref_mut.result.now = λ i. ap (λ ws. mark_of ws i) c.deref_mut.ensures.value ∙ c.in_ok-make_room.ensures.none i in
    λ i. ap (λ ws. mark_of ws i) second
    ∙ unmarked_again c.args.excluded.now c.deref_mut.result.now c.set_marks.new.words none c.set_marks.ensures.marks c.set_marks-2.new.words
    (λ j. c.set_marks-2.ensures.marks j ∙ ap (λ ws. cond (is_among c.args.excluded.now j) 0 (mark_of ws j)) (c.deref_mut-2.ensures.value ∙ first)) i

pub returns-clause-column : goal.returns-clause-column
returns-clause-column g c =
    let s = g.S.Semiring.arithmetic in
    let same = c.deref.ensures.value ∙ written c.make_room.new.words.len c.set_marks.new.words c.make_room.new.words.items (c.set_marks.ensures.length ∙ c.deref_mut.ensures.len) in
    let none : MarksNone c.deref_mut.result.now = λ i. ap (λ ws. mark_of ws i) c.deref_mut.ensures.value ∙ c.in_ok-make_room.ensures.none i in
    λ i. c.in_ok-make_dense_outside.ensures.column i
    ∙ ap (λ b. cond b s.zero (terms_at s c.args.left.now i c.args.terms.now))
    (ap (λ ws. mark_of ws i == 1) same ∙ marked_as c.args.excluded.now c.deref_mut.result.now c.set_marks.new.words none c.set_marks.ensures.marks i)
