-- The meaning of a plan, act by act, over blocks of any kind.
use Rattle.std.specs.Prelude.{◌≡◌, ℕ, Bool, true, false, ◌&&◌, ◌==◌, if◌then◌else◌, List, [], ◌∷◌, Option, Some, None}
use Rattle.cb_matrix.specs.Sparse.{Extent}
use Rattle.cb_matrix.specs.declared.passing.Test.{Test}
use Rattle.cb_plan.specs.declared.acts.Op.{Op}
use Rattle.cb_plan.specs.declared.acts.Op.TheVariants as op_is
use Rattle.cb_plan.specs.declared.acts.Act.{Act}
use Rattle.cb_plan.specs.declared.acts.Act.TheVariants as act_is

-- the operations on one kind of block
pub record Algebra (M : Type 0) : Type 0 where
  -- the block of a shape without entries
  pub empty : Extent → M
  -- the product of the first two, added to the third
  pub mul_add : M → M → M → M
  pub add : M → M → M
  pub times : M → M → M
  pub transpose : M → M
  -- the sum of each column, in one row
  pub column_sums : M → M
  -- the rows and columns from the first number of a pair up to the second
  pub cut : ℕ × ℕ → ℕ × ℕ → M → M
  -- inside a block of a shape, with its first place at a corner
  pub place : Extent → ℕ × ℕ → M → M
  pub mul_vec : M → M → M
  pub prune : Test → M → M
  -- the first, at the places where the second has entries
  pub mask : M → M → M

-- the block in each slot of each rank, if the slot isn't empty
abbrev pub State : Type 0 → Type 0
State M = ℕ → ℕ → Option M

abbrev pub one : {M N : Type 0} → (M → N) → Option M → Option N
one f (Some a) = Some (f a)
one f None = None

abbrev pub two : {M N : Type 0} → (M → M → N) → Option M → Option M → Option N
two f (Some a) x = one (f a) x
two f None x = None

abbrev pub three : {M N : Type 0} → (M → M → M → N) → Option M → Option M → Option M → Option N
three f (Some a) x y = two (f a) x y
three f None x y = None

-- the slot that an operation sets
abbrev pub target_of : Op → ℕ
target_of (op_is.Zero into shape) = into
target_of (op_is.MulAdd a b acc) = acc
target_of (op_is.Add a b into) = into
target_of (op_is.Times a b into) = into
target_of (op_is.Transpose a into) = into
target_of (op_is.ColumnSums a into) = into
target_of (op_is.Cut a rows cols into) = into
target_of (op_is.Place a shape at into) = into
target_of (op_is.MulVec a x into) = into
target_of (op_is.Prune a test into) = into
target_of (op_is.Copy a into) = into
target_of (op_is.Clear slot) = slot
target_of (op_is.Mask a m into) = into

-- what an operation sets its slot to, from the slots of its rank
abbrev pub result_of : {M : Type 0} → Algebra M → Op → (ℕ → Option M) → Option M
result_of ops (op_is.Zero into shape) slots = Some (ops.empty shape)
result_of ops (op_is.MulAdd a b acc) slots = three ops.mul_add (slots a) (slots b) (slots acc)
result_of ops (op_is.Add a b into) slots = two ops.add (slots a) (slots b)
result_of ops (op_is.Times a b into) slots = two ops.times (slots a) (slots b)
result_of ops (op_is.Transpose a into) slots = one ops.transpose (slots a)
result_of ops (op_is.ColumnSums a into) slots = one ops.column_sums (slots a)
result_of ops (op_is.Cut a rows cols into) slots = one (ops.cut rows cols) (slots a)
result_of ops (op_is.Place a shape at into) slots = one (ops.place shape at) (slots a)
result_of ops (op_is.MulVec a x into) slots = two ops.mul_vec (slots a) (slots x)
result_of ops (op_is.Prune a test into) slots = one (ops.prune test) (slots a)
result_of ops (op_is.Copy a into) slots = slots a
result_of ops (op_is.Clear slot) slots = None
result_of ops (op_is.Mask a m into) slots = two ops.mask (slots a) (slots m)

-- whether an operation may take memory: a block without entries and an empty slot take none
abbrev pub needs_memory : Op → Bool
needs_memory (op_is.Zero into shape) = false
needs_memory (op_is.Clear slot) = false
needs_memory _ = true

-- one act on the slots of all ranks: a copy goes to another rank, a rank does an operation, or a lane is shut
abbrev pub act : {M : Type 0} → Algebra M → Act → State M → State M
act ops (act_is.Move from to tag slot into) state r n = if to == r && into == n then state from slot else state r n
act ops (act_is.Work rank op) state r n = if rank == r && target_of op == n then result_of ops op (state rank) else state r n
act ops (act_is.Shut from to) state r n = state r n

-- the acts one after another
abbrev pub meaning : {M : Type 0} → Algebra M → List Act → State M → State M
meaning ops [] state = state
meaning ops (a ∷ acts) state = meaning ops acts (act ops a state)

-- f carries the operations on one kind of block to those on another
pub record Turns {M N : Type 0} (f : M → N) (ops : Algebra M) (images : Algebra N) : Type 0 where
  pub empty : (shape : Extent) → f (ops.empty shape) ≡ images.empty shape
  pub mul_add : (a b acc : M) → f (ops.mul_add a b acc) ≡ images.mul_add (f a) (f b) (f acc)
  pub add : (a b : M) → f (ops.add a b) ≡ images.add (f a) (f b)
  pub times : (a b : M) → f (ops.times a b) ≡ images.times (f a) (f b)
  pub transpose : (a : M) → f (ops.transpose a) ≡ images.transpose (f a)
  pub column_sums : (a : M) → f (ops.column_sums a) ≡ images.column_sums (f a)
  pub cut : (rows cols : ℕ × ℕ) (a : M) → f (ops.cut rows cols a) ≡ images.cut rows cols (f a)
  pub place : (shape : Extent) (at : ℕ × ℕ) (a : M) → f (ops.place shape at a) ≡ images.place shape at (f a)
  pub mul_vec : (a x : M) → f (ops.mul_vec a x) ≡ images.mul_vec (f a) (f x)
  pub prune : (test : Test) (a : M) → f (ops.prune test a) ≡ images.prune test (f a)
  pub mask : (a m : M) → f (ops.mask a m) ≡ images.mask (f a) (f m)

abbrev pub images : {M N : Type 0} → (M → N) → State M → State N
images f state r n = one f (state r n)
