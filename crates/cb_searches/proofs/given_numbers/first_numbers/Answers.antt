use Rattle.std.proofs.Common.{◌∙◌, ap, subst, arith}
use Rattle.cb_matrix.specs.Sparse.{Extent}
use Rattle.cb_searches.specs.Numbers.{AreNumbers}
use Rattle.cb_searches.proofs.TakenNumbers.{taken_none}
use Rattle.cb_searches.proofs.GivenEntries.{given_inside, given_one, given_values, given_numbers}
use Rattle.cb_searches.proofs.given_numbers.first_numbers.Goals as goal

pub loop-n-init : goal.loop-n-init
loop-n-init c = (
  c.in_ok-known.known,
  c.in_ok-known.ensures.infinite,
  subst (λ n. AreNumbers n c.in_ok-known.known) (c.rows.ensures.value ∙ ap (λ (e : Extent). e.rows) c.shape-shape.ensures.shape) c.in_ok-known.ensures.numbers,
  taken_none c.in_ok-known.known,
)

pub set-requires : goal.set-requires
set-requires c = record { vertex = given_inside c.args.given.now c.shape-shape.ensures.matrix c.requires.column c.loop-n.n c.loop-n.known c.loop-n.invariant c.entry_at-entry.result (omega arith) c.entry_at-entry.ensures }

pub loop-n-preserved : goal.loop-n-preserved
loop-n-preserved c = given_one c.args.given.now c.shape-shape.ensures.matrix c.requires.column c.loop-n.n c.loop-n.known c.loop-n.invariant c.entry_at-entry.result (omega arith) c.entry_at-entry.ensures c.set.new.self c.in_ok-set.ensures.values c.in_ok-set.ensures.numbers

pub returns-clause-values : goal.returns-clause-values
returns-clause-values c = given_values c.args.given.now c.shape-shape.ensures.matrix c.requires.column c.loop-n.n c.loop-n.known c.loop-n.invariant (omega arith)

pub returns-clause-numbers : goal.returns-clause-numbers
returns-clause-numbers c = given_numbers c.args.given.now c.shape-shape.ensures.matrix c.requires.column c.loop-n.n c.loop-n.known c.loop-n.invariant (omega arith)
