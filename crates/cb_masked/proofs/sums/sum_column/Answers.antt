use Rattle.std.proofs.Common.{ℕ, length, take, drop, sym, subst, ap, ◌∙◌}
use Rattle.std.specs.Prelude.{All}
use Rattle.std.proofs.lemmas.List.{take_at}
use Rattle.cb_semirings.specs.Arithmetic.{IsValue}
use Rattle.cb_product.specs.Terms.{column_sum}
use Rattle.cb_masked.specs.RowSums.{HaveEach}
use Rattle.cb_masked.proofs.AddedSums.{front_length, front_values, front_sums}
use Rattle.cb_masked.proofs.sums.sum_column.Goals as goal

pub returns-clause-same_length : goal.returns-clause-same_length
returns-clause-same_length g c =
    let rows = c.args.rows.now in
    let sums = c.add_terms.new.sums in
    let whole = take_at sums (drop (length sums) c.resize.new.self.items) c.resize.new.self.len (c.add_terms.auto.sums ∙ c.deref_mut.ensures.len) in
    let cut = c.truncate.ensures.items ∙ ap (take (length rows)) whole in
    ap length cut ∙ front_length g.S.Semiring.arithmetic rows sums c.add_terms.ensures.are

pub returns-clause-are_values : goal.returns-clause-are_values
returns-clause-are_values g c =
    let s = g.S.Semiring.arithmetic in
    let rows = c.args.rows.now in
    let sums = c.add_terms.new.sums in
    let whole = take_at sums (drop (length sums) c.resize.new.self.items) c.resize.new.self.len (c.add_terms.auto.sums ∙ c.deref_mut.ensures.len) in
    let cut = c.truncate.ensures.items ∙ ap (take (length rows)) whole in
    subst (All (IsValue s)) (sym cut) (front_values s rows sums c.add_terms.ensures.are)

pub returns-clause-sums : goal.returns-clause-sums
returns-clause-sums g c =
    let s = g.S.Semiring.arithmetic in
    let rows = c.args.rows.now in
    let sums = c.add_terms.new.sums in
    let whole = take_at sums (drop (length sums) c.resize.new.self.items) c.resize.new.self.len (c.add_terms.auto.sums ∙ c.deref_mut.ensures.len) in
    let cut = c.truncate.ensures.items ∙ ap (take (length rows)) whole in
    let f : ℕ → ℕ = λ i. column_sum s c.args.left.now i c.args.inner.now c.args.factors.now in
    subst (HaveEach s rows f) (sym cut) (front_sums s rows sums c.add_terms.ensures.are f c.add_terms.ensures.sums)
