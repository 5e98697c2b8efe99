-- The shapes of what a plan means are what it means for the shapes.
use Rattle.std.proofs.Common.{◌≡◌, ℕ, List, [], ◌∷◌, refl, ap, ◌∙◌}
use Rattle.std.specs.Prelude.{Option, Some, None, ◌==◌, ◌&&◌}
use Rattle.cb_semirings.specs.Arithmetic.{Arithmetic}
use Rattle.cb_matrix.specs.Sparse.{Sparse}
use Rattle.cb_plan.specs.declared.acts.Op.{Op}
use Rattle.cb_plan.specs.declared.acts.Op.TheVariants as op_is
use Rattle.cb_plan.specs.declared.acts.Act.{Act}
use Rattle.cb_plan.specs.declared.acts.Act.TheVariants as act_is
use Rattle.cb_plan.specs.Meaning.{Algebra, State, Turns, images, one, two, three, act, meaning, target_of, result_of}
use Rattle.cb_plan.specs.Algebras.{matrices, shapes}
use Rattle.cb_plan.proofs.Effects.{split, same_state}

module _ {M N : Type 0} (f : M → N) (ops : Algebra M) (to : Algebra N) (turns : Turns f ops to) where
  one_turns : (g : M → M) (h : N → N) → ((a : M) → f (g a) ≡ h (f a)) → (x : Option M) → one f (one g x) ≡ one h (one f x)
  one_turns g h e (Some a) = ap Some (e a)
  one_turns g h e None = refl

  two_turns : (g : M → M → M) (h : N → N → N) → ((a b : M) → f (g a b) ≡ h (f a) (f b)) → (x y : Option M) → one f (two g x y) ≡ two h (one f x) (one f y)
  two_turns g h e (Some a) y = one_turns (g a) (h (f a)) (e a) y
  two_turns g h e None y = refl

  three_turns : (g : M → M → M → M) (h : N → N → N → N) → ((a b c : M) → f (g a b c) ≡ h (f a) (f b) (f c)) → (x y z : Option M) → one f (three g x y z) ≡ three h (one f x) (one f y) (one f z)
  three_turns g h e (Some a) y z = two_turns (g a) (h (f a)) (e a) y z
  three_turns g h e None y z = refl

  result_turns : (op : Op) (slots : ℕ → Option M) → one f (result_of ops op slots) ≡ result_of to op (λ n. one f (slots n))
  result_turns (op_is.Zero into shape) slots = ap Some (turns.empty shape)
  result_turns (op_is.MulAdd a b acc) slots = three_turns ops.mul_add to.mul_add turns.mul_add (slots a) (slots b) (slots acc)
  result_turns (op_is.Add a b into) slots = two_turns ops.add to.add turns.add (slots a) (slots b)
  result_turns (op_is.Times a b into) slots = two_turns ops.times to.times turns.times (slots a) (slots b)
  result_turns (op_is.Transpose a into) slots = one_turns ops.transpose to.transpose turns.transpose (slots a)
  result_turns (op_is.ColumnSums a into) slots = one_turns ops.column_sums to.column_sums turns.column_sums (slots a)
  result_turns (op_is.Cut a rows cols into) slots = one_turns (ops.cut rows cols) (to.cut rows cols) (turns.cut rows cols) (slots a)
  result_turns (op_is.Place a shape at into) slots = one_turns (ops.place shape at) (to.place shape at) (turns.place shape at) (slots a)
  result_turns (op_is.MulVec a x into) slots = two_turns ops.mul_vec to.mul_vec turns.mul_vec (slots a) (slots x)
  result_turns (op_is.Prune a test into) slots = one_turns (ops.prune test) (to.prune test) (turns.prune test) (slots a)
  result_turns (op_is.Copy a into) slots = refl
  result_turns (op_is.Clear slot) slots = refl
  result_turns (op_is.Mask a m into) slots = two_turns ops.mask to.mask turns.mask (slots a) (slots m)

  -- what an act does, turned, is what it does to what is turned
  pub act_turns : (a : Act) (state : State M) (r n : ℕ) → images f (act ops a state) r n ≡ act to a (images f state) r n
  act_turns (act_is.Move from into tag slot n') state r n = split (into == r && n' == n) (λ t. rw t refl) (λ t. rw t refl)
  act_turns (act_is.Work rank op) state r n = split (rank == r && target_of op == n) (λ t. rw t (result_turns op (state rank))) (λ t. rw t refl)
  act_turns (act_is.Shut from into) state r n = refl

  -- and so is what a list of acts means
  pub meaning_turns : (acts : List Act) (state : State M) → images f (meaning ops acts state) ≡ meaning to acts (images f state)
  meaning_turns [] state = refl
  meaning_turns (a ∷ acts) state = meaning_turns acts (act ops a state) ∙ ap (meaning to acts) (same_state (images f (act ops a state)) (act to a (images f state)) (act_turns a state))

-- the shape is such a turn
pub shape_turns : (s : Arithmetic) → Turns (λ (m : Sparse). m.shape) (matrices s) shapes
shape_turns s = record {
  empty = λ shape. refl;
  mul_add = λ a b acc. refl;
  add = λ a b. refl;
  times = λ a b. refl;
  transpose = λ a. refl;
  column_sums = λ a. refl;
  cut = λ rows cols a. refl;
  place = λ shape at a. refl;
  mul_vec = λ a x. refl;
  prune = λ test a. refl;
  mask = λ a m. refl;
}

-- the shapes of what acts mean are what the acts mean for the shapes
pub shapes_of_meaning : (s : Arithmetic) (acts : List Act) (state : State Sparse) → images (λ (m : Sparse). m.shape) (meaning (matrices s) acts state) ≡ meaning shapes acts (images (λ (m : Sparse). m.shape) state)
shapes_of_meaning s acts state = meaning_turns (λ m. m.shape) (matrices s) shapes (shape_turns s) acts state
