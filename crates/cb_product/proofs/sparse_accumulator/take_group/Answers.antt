use Rattle.std.proofs.Common.{◌+◌, ◌*◌, ◌<◌, length, length-set, refl, ◌∙◌, arith}
use Rattle.std.specs.Int.{trailing_zeros, w64}
use Rattle.std.proofs.lemmas.List.{get_or-set_same, get_or-set_other}
use Rattle.std.proofs.lemmas.List.Elements.{All-weaker}
use Rattle.cb_product.proofs.MarkBits.{bit_inside, marked_fewer, marked_without, low_set, low_within, left_bit, without_low-less, lowest_inside, lowest_removed}
use Rattle.cb_product.proofs.sparse_accumulator.take_group.Goals as goal

pub loop-rest-init : goal.loop-rest-init
loop-rest-init g c =
    let n = c.args.n in
    record {
      long = refl;
      groups_long = refl;
      accumulator = c.requires.accumulator;
      left = refl;
      before = λ k b. All-weaker (λ i. i < n * 4096) (λ i. i < (n * 64 + k) * 64) (λ i m. omega arith) _ c.requires.before;
      upper = All-weaker (λ i. i < n * 4096) (λ i. i < n * 4096 + 4096) (λ i m. omega arith) _ c.requires.before;
      others = λ k ne. refl;
      together = λ i. refl;
    }

pub bounds-marks-word : goal.bounds-marks-word
bounds-marks-word g c =
    let inv = c.loop-rest.invariant in
    let test = c.loop-rest-test.true in
    let l : c.args.n < length c.loop-rest.groups = (let inside = c.requires.inside in let long = inv.groups_long in omega arith) in
    lowest_inside g.S.Semiring.arithmetic.zero c.loop-rest.sums c.loop-rest.marks c.loop-rest.groups c.args.n c.loop-rest.rest inv.accumulator.marked l inv.left c.loop-rest.auto.rest-fits.fits (omega arith)

pub take_word-requires-clause-inside : goal.take_word-requires-clause-inside
take_word-requires-clause-inside g c = λ k b. bit_inside g.S.Semiring.arithmetic.zero c.loop-rest.sums c.loop-rest.marks c.loop-rest.groups _ k c.loop-rest.invariant.accumulator.marked (c.type_inv.marks _).fits b

pub take_word-requires-clause-before : goal.take_word-requires-clause-before
take_word-requires-clause-before g c =
    let test = c.loop-rest-test.true in
    c.loop-rest.invariant.before _ (low_set c.loop-rest.rest c.loop-rest.auto.rest-fits.fits (omega arith))

pub returns-in_err-take_word-clause-accumulator : goal.returns-in_err-take_word-clause-accumulator
returns-in_err-take_word-clause-accumulator g c = record {
  values = c.take_word.ensures.values;
  marked = marked_fewer g.S.Semiring.arithmetic.zero c.loop-rest.sums c.take_word.new.sums c.loop-rest.marks c.loop-rest.groups 0 c.loop-rest.invariant.accumulator.marked c.take_word.ensures.length c.take_word.ensures.zeros_stay;
}

pub bounds-marks-word-in-loop-rest : goal.bounds-marks-word-in-loop-rest
bounds-marks-word-in-loop-rest g c =
    let inv = c.loop-rest.invariant in
    let test = c.loop-rest-test.true in
    let l : c.args.n < length c.loop-rest.groups = (let inside = c.requires.inside in let long = inv.groups_long in omega arith) in
    lowest_inside g.S.Semiring.arithmetic.zero c.loop-rest.sums c.loop-rest.marks c.loop-rest.groups c.args.n c.loop-rest.rest inv.accumulator.marked l inv.left c.loop-rest.auto.rest-fits.fits (omega arith)

pub loop-rest-smaller : goal.loop-rest-smaller
loop-rest-smaller g c =
    let test = c.loop-rest-test.true in
    without_low-less c.loop-rest.rest c.loop-rest.auto.rest-fits.fits (let some : 0 < c.loop-rest.rest = omega arith in some)

pub loop-rest-preserved : goal.loop-rest-preserved
loop-rest-preserved g c =
    let s = g.S.Semiring.arithmetic in
    let inv = c.loop-rest.invariant in
    let sums = c.loop-rest.sums in
    let marks = c.loop-rest.marks in
    let groups = c.loop-rest.groups in
    let rest = c.loop-rest.rest in
    let n = c.args.n in
    let m = inv.accumulator.marked in
    let test = c.loop-rest-test.true in
    let fits = c.loop-rest.auto.rest-fits.fits in
    let some : 0 < rest = omega arith in
    let l : n < length groups = (let inside = c.requires.inside in let long = inv.groups_long in omega arith) in
    let inside = lowest_inside s.zero sums marks groups n rest m l inv.left fits some in
    record {
      long = c.take_word.ensures.length ∙ inv.long;
      groups_long = length-set groups n _ ∙ inv.groups_long;
      accumulator = record {
        values = c.take_word.ensures.values;
        marked = lowest_removed s.zero c.take_word.new.sums _ groups n rest (marked_without s.zero sums c.take_word.new.sums marks groups _ m c.take_word.ensures.length c.take_word.ensures.zeros_stay c.in_ok-take_word.ensures.zeros inside) l inv.left fits some (get_or-set_same marks _ 0 0 inside);
      };
      left = get_or-set_same groups n _ 0 l;
      before = λ k b.
          let later = (left_bit rest fits some k b).2 in
          All-weaker (λ i. i < (n * 64 + trailing_zeros w64 rest) * 64 + 64) (λ i. i < (n * 64 + k) * 64) (λ i d. omega arith) _ c.in_ok-take_word.ensures.rows;
      upper =
          let low = low_within rest fits some in
          All-weaker (λ i. i < (n * 64 + trailing_zeros w64 rest) * 64 + 64) (λ i. i < n * 4096 + 4096) (λ i d. omega arith) _ c.in_ok-take_word.ensures.rows;
      others = λ k ne. get_or-set_other groups n k _ 0 ne ∙ inv.others k ne;
      together = λ i. c.in_ok-take_word.ensures.together i ∙ inv.together i;
    }
