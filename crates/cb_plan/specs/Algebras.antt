-- The operations of a plan on matrices, and on shapes alone.
use Rattle.std.specs.Prelude.{◌-◌}
use Rattle.cb_semirings.specs.Arithmetic.{Arithmetic}
use Rattle.cb_matrix.specs.Sparse.{Sparse, Extent}
use Rattle.cb_matrix.specs.Values.{empty_matrix, product}
use Rattle.cb_matrix.specs.Operations.{sum_of, times_of, transposed, column_sums, cut, placed, pruned, masked}
use Rattle.cb_matrix.specs.Passing.{passes}
use Rattle.cb_plan.specs.Meaning.{Algebra}

-- the operations on matrices over a semiring
abbrev pub matrices : Arithmetic → Algebra Sparse
matrices s = record {
  empty = empty_matrix;
  mul_add = λ a b acc. sum_of s acc (product s a b);
  add = sum_of s;
  times = times_of s;
  transpose = transposed s;
  column_sums = column_sums s;
  cut = cut s;
  place = placed s;
  mul_vec = product s;
  prune = λ test a. pruned s (passes test) a;
  mask = masked s;
}

-- the shapes of their results, from the shapes of their operands
abbrev pub shapes : Algebra Extent
shapes = record {
  empty = λ shape. shape;
  mul_add = λ a b acc. acc;
  add = λ a b. a;
  times = λ a b. a;
  transpose = λ a. record { rows = a.cols; cols = a.rows };
  column_sums = λ a. record { rows = 1; cols = a.cols };
  cut = λ rows cols a. record { rows = rows.1 - rows.0; cols = cols.1 - cols.0 };
  place = λ shape at a. shape;
  mul_vec = λ a x. record { rows = a.rows; cols = x.cols };
  prune = λ test a. a;
  mask = λ a m. a;
}
