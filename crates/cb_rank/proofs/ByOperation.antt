-- What is proved operation by operation.
use Rattle.std.proofs.Common.{◌≡◌, ℕ, Bool, true, false, List, [], ◌∷◌, refl}
use Rattle.std.specs.Prelude.{Option, Some, None, IsSome, is_some, ◌&&◌}
use Rattle.cb_matrix.specs.Sparse.{Sparse, Extent}
use Rattle.cb_plan.specs.declared.acts.Op.{Op}
use Rattle.cb_plan.specs.declared.acts.Op.TheVariants as op_is
use Rattle.cb_plan.specs.declared.stores.Slot.{Slot}
use Rattle.cb_plan.specs.Meaning.{Algebra, needs_memory, one, two, three, result_of}
use Rattle.cb_plan.specs.Checks.{operands_of, all_filled, shapes_agree}
use Rattle.cb_rank.specs.Halves.{first_lost, reads_of}

-- the slots of a list are filled
abbrev pub AllSome : {M : Type 0} → (ℕ → Option M) → List ℕ → Type 0
AllSome f [] = Unit {0}
AllSome f (n ∷ ns) = IsSome (f n) × AllSome f ns

some_test : {M : Type 0} (x : Option M) → is_some x ≡ true → IsSome x
some_test (Some m) h = refl
some_test None h = cc

both : (b c : Bool) → (b && c) ≡ true → (b ≡ true) × (c ≡ true)
both true c h = (refl, h)
both false c h = cc

-- slots that the check finds filled are
pub filled_slots : (v : ℕ → Option Extent) (ns : List ℕ) → all_filled v ns ≡ true → AllSome v ns
filled_slots v [] h = tt
filled_slots v (n ∷ ns) h = let p = both _ _ h in (some_test (v n) p.0, filled_slots v ns p.1)

-- two states of a rank's slots agree at these slots
abbrev pub AreSame : {M : Type 0} → (ℕ → Option M) → (ℕ → Option M) → List ℕ → Type 0
AreSame f g [] = Unit {0}
AreSame f g (n ∷ ns) = (f n ≡ g n) × AreSame f g ns

-- the result of an operation depends only on the slots that it reads
pub same_result : {M : Type 0} (ops : Algebra M) (op : Op) (f g : ℕ → Option M) → AreSame f g (reads_of op) → result_of ops op f ≡ result_of ops op g
same_result ops (op_is.Zero into shape) f g h = refl
same_result ops (op_is.MulAdd a b acc) f g h = rw (h.0, h.1.0, h.1.1.0) refl
same_result ops (op_is.Add a b into) f g h = rw (h.0, h.1.0) refl
same_result ops (op_is.Times a b into) f g h = rw (h.0, h.1.0) refl
same_result ops (op_is.MulVec a x into) f g h = rw (h.0, h.1.0) refl
same_result ops (op_is.Copy a into) f g h = h.0
same_result ops (op_is.Clear slot) f g h = refl
same_result ops (op_is.Mask a m into) f g h = rw (h.0, h.1.0) refl
same_result ops _ f g h = rw h.0 refl

some_one : {M : Type 0} (f : M → M) (x : Option M) → IsSome x → IsSome (one f x)
some_one f (Some m) h = refl
some_one f None h = cc

some_two : {M : Type 0} (f : M → M → M) (x y : Option M) → IsSome x → IsSome y → IsSome (two f x y)
some_two f (Some m) y h k = some_one (f m) y k
some_two f None y h k = cc

some_three : {M : Type 0} (f : M → M → M → M) (x y z : Option M) → IsSome x → IsSome y → IsSome z → IsSome (three f x y z)
some_three f (Some m) y z h k l = some_two (f m) y z k l
some_three f None y z h k l = cc

-- an operation that needs memory makes a block from blocks
pub some_result : {M : Type 0} (ops : Algebra M) (op : Op) (f : ℕ → Option M) → needs_memory op ≡ true → AllSome f (operands_of op) → IsSome (result_of ops op f)
some_result ops (op_is.Zero into shape) f n h = refl
some_result ops (op_is.MulAdd a b acc) f n h = some_three ops.mul_add (f a) (f b) (f acc) h.0 h.1.0 h.1.1.0
some_result ops (op_is.Add a b into) f n h = some_two ops.add (f a) (f b) h.0 h.1.0
some_result ops (op_is.Times a b into) f n h = some_two ops.times (f a) (f b) h.0 h.1.0
some_result ops (op_is.Transpose a into) f n h = some_one ops.transpose (f a) h.0
some_result ops (op_is.ColumnSums a into) f n h = some_one ops.column_sums (f a) h.0
some_result ops (op_is.Cut a rows cols into) f n h = some_one (ops.cut rows cols) (f a) h.0
some_result ops (op_is.Place a shape at into) f n h = some_one (ops.place shape at) (f a) h.0
some_result ops (op_is.MulVec a x into) f n h = some_two ops.mul_vec (f a) (f x) h.0 h.1.0
some_result ops (op_is.Prune a test into) f n h = some_one (ops.prune test) (f a) h.0
some_result ops (op_is.Copy a into) f n h = h.0
some_result ops (op_is.Clear slot) f n h = cc
some_result ops (op_is.Mask a m into) f n h = some_two ops.mask (f a) (f m) h.0 h.1.0

-- only an operation that needs memory reads a lost slot
pub lost_needs : (op : Op) (slots : List (Slot Sparse)) (o : ℕ) → first_lost slots (reads_of op) ≡ Some o → needs_memory op ≡ true
lost_needs (op_is.Zero into shape) slots o e = cc
lost_needs (op_is.Clear slot) slots o e = cc
lost_needs _ slots o e = refl

-- if two states have the same shapes at the operands, an operation may be done on both or on neither
pub may_work : (op : Op) (f g : ℕ → Option Extent) → AreSame f g (operands_of op) → (all_filled g (operands_of op) ≡ true) × (shapes_agree g op ≡ true) → (all_filled f (operands_of op) ≡ true) × (shapes_agree f op ≡ true)
may_work (op_is.Zero into shape) f g h k = k
may_work (op_is.MulAdd a b acc) f g h k = rw (h.0, h.1.0, h.1.1.0) k
may_work (op_is.Add a b into) f g h k = rw (h.0, h.1.0) k
may_work (op_is.Times a b into) f g h k = rw (h.0, h.1.0) k
may_work (op_is.MulVec a x into) f g h k = rw (h.0, h.1.0) k
may_work (op_is.Mask a m into) f g h k = rw (h.0, h.1.0) k
may_work _ f g h k = rw h.0 k
