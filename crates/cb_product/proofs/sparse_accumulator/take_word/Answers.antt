use Rattle.std.proofs.Common.{◌+◌, ◌*◌, ◌<◌, refl, arith}
use Rattle.std.proofs.lemmas.List.Elements.{All-get_or, All-weaker}
use Rattle.cb_semirings.specs.Arithmetic.{IsValue}
use Rattle.cb_product.proofs.ColumnSoFar.{column_value}
use Rattle.cb_product.proofs.MarkBits.{low_set, without_low-less}
use Rattle.cb_product.proofs.WordStep.{word_step}
use Rattle.cb_product.proofs.sparse_accumulator.take_word.Goals as goal

pub loop-rest-init : goal.loop-rest-init
loop-rest-init g c =
    record {
      long = refl;
      values = c.requires.values;
      column = column_value g.S.Semiring.arithmetic g.met.S.Semiring.is_semiring _ c.entries.ensures.column;
      subset = λ k b. b;
      before = λ k b. All-weaker (λ i. i < c.args.n * 64) (λ i. i < c.args.n * 64 + k) (λ i m. omega arith) _ c.requires.before;
      upper = All-weaker (λ i. i < c.args.n * 64) (λ i. i < c.args.n * 64 + 64) (λ i m. omega arith) _ c.requires.before;
      stay = λ i z. z;
      zeros = λ k one none. absurd (omega arith);
      together = λ i. refl;
    }

pub overflow_mul-row : goal.overflow_mul-row
overflow_mul-row g c =
    let fits = c.loop-rest.auto.rest-fits.fits in
    let test = c.loop-rest-test.true in
    let some : 0 < c.loop-rest.rest = omega arith in
    let l = c.requires.inside _ (c.loop-rest.invariant.subset _ (low_set c.loop-rest.rest fits some)) in
    let limit = c.requires.limit in
    omega arith

pub overflow_add-row : goal.overflow_add-row
overflow_add-row g c =
    let fits = c.loop-rest.auto.rest-fits.fits in
    let test = c.loop-rest-test.true in
    let some : 0 < c.loop-rest.rest = omega arith in
    let l = c.requires.inside _ (c.loop-rest.invariant.subset _ (low_set c.loop-rest.rest fits some)) in
    let limit = c.requires.limit in
    omega arith

pub overflow_cast-row-in-loop-rest : goal.overflow_cast-row-in-loop-rest
overflow_cast-row-in-loop-rest g c =
    let fits = c.loop-rest.auto.rest-fits.fits in
    let test = c.loop-rest-test.true in
    let some : 0 < c.loop-rest.rest = omega arith in
    let l = c.requires.inside _ (c.loop-rest.invariant.subset _ (low_set c.loop-rest.rest fits some)) in
    let limit = c.requires.limit in
    omega arith

pub offset_bounds-sums-row : goal.offset_bounds-sums-row
offset_bounds-sums-row g c =
    let fits = c.loop-rest.auto.rest-fits.fits in
    let test = c.loop-rest-test.true in
    let some : 0 < c.loop-rest.rest = omega arith in
    let l = c.requires.inside _ (c.loop-rest.invariant.subset _ (low_set c.loop-rest.rest fits some)) in
    let limit = c.requires.limit in
    omega arith

pub bounds-sums-row : goal.bounds-sums-row
bounds-sums-row g c =
    let fits = c.loop-rest.auto.rest-fits.fits in
    let test = c.loop-rest-test.true in
    let some : 0 < c.loop-rest.rest = omega arith in
    let l = c.requires.inside _ (c.loop-rest.invariant.subset _ (low_set c.loop-rest.rest fits some)) in
    let long = c.loop-rest.invariant.long in
    omega arith

pub keep-requires-clause-after : goal.keep-requires-clause-after
keep-requires-clause-after g c =
    let test = c.loop-rest-test.true in
    c.loop-rest.invariant.before _ (low_set c.loop-rest.rest c.loop-rest.auto.rest-fits.fits (let some : 0 < c.loop-rest.rest = omega arith in some))

pub offset_bounds-sums-row-in-loop-rest : goal.offset_bounds-sums-row-in-loop-rest
offset_bounds-sums-row-in-loop-rest g c =
    let fits = c.loop-rest.auto.rest-fits.fits in
    let test = c.loop-rest-test.true in
    let some : 0 < c.loop-rest.rest = omega arith in
    let l = c.requires.inside _ (c.loop-rest.invariant.subset _ (low_set c.loop-rest.rest fits some)) in
    let limit = c.requires.limit in
    omega arith

pub bounds-sums-row-in-loop-rest : goal.bounds-sums-row-in-loop-rest
bounds-sums-row-in-loop-rest g c =
    let fits = c.loop-rest.auto.rest-fits.fits in
    let test = c.loop-rest-test.true in
    let some : 0 < c.loop-rest.rest = omega arith in
    let l = c.requires.inside _ (c.loop-rest.invariant.subset _ (low_set c.loop-rest.rest fits some)) in
    let long = c.loop-rest.invariant.long in
    omega arith

pub loop-rest-smaller : goal.loop-rest-smaller
loop-rest-smaller g c =
    let test = c.loop-rest-test.true in
    without_low-less c.loop-rest.rest c.loop-rest.auto.rest-fits.fits (let some : 0 < c.loop-rest.rest = omega arith in some)

pub loop-rest-preserved : goal.loop-rest-preserved
loop-rest-preserved g c =
    let fits = c.loop-rest.auto.rest-fits.fits in
    let test = c.loop-rest-test.true in
    let some : 0 < c.loop-rest.rest = omega arith in
    let l = c.requires.inside _ (c.loop-rest.invariant.subset _ (low_set c.loop-rest.rest fits some)) in
    let long = c.loop-rest.invariant.long in
    word_step g.S.Semiring.arithmetic g.met.S.Semiring.is_semiring c.args.sums.now c.args.made.now c.args.n c.args.word c.loop-rest.sums c.loop-rest.made c.loop-rest.rest c.loop-rest.invariant fits some (omega arith) c.keep.new.self c.zero.result c.zero.ensures c.in_ok-keep.ensures.sum c.in_ok-keep.ensures.rows

pub keep-requires-clause-value : goal.keep-requires-clause-value
keep-requires-clause-value g c =
    let fits = c.loop-rest.auto.rest-fits.fits in
    let test = c.loop-rest-test.true in
    let some : 0 < c.loop-rest.rest = omega arith in
    let l = c.requires.inside _ (c.loop-rest.invariant.subset _ (low_set c.loop-rest.rest fits some)) in
    let long = c.loop-rest.invariant.long in
    All-get_or (IsValue g.S.Semiring.arithmetic) c.loop-rest.sums _ 0 (omega arith) c.loop-rest.invariant.values

pub returns-in_err-keep-clause-length : goal.returns-in_err-keep-clause-length
returns-in_err-keep-clause-length g c = c.loop-rest.invariant.long

pub returns-in_err-keep-clause-values : goal.returns-in_err-keep-clause-values
returns-in_err-keep-clause-values g c = c.loop-rest.invariant.values

pub returns-in_err-keep-clause-zeros_stay : goal.returns-in_err-keep-clause-zeros_stay
returns-in_err-keep-clause-zeros_stay g c = c.loop-rest.invariant.stay

pub returns-clause-length : goal.returns-clause-length
returns-clause-length g c = c.loop-rest.invariant.long

pub returns-clause-values : goal.returns-clause-values
returns-clause-values g c = c.loop-rest.invariant.values

pub returns-clause-zeros_stay : goal.returns-clause-zeros_stay
returns-clause-zeros_stay g c = c.loop-rest.invariant.stay

pub returns-clause-rows : goal.returns-clause-rows
returns-clause-rows g c = c.loop-rest.invariant.upper

pub returns-clause-together : goal.returns-clause-together
returns-clause-together g c = c.loop-rest.invariant.together
