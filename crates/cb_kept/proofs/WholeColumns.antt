-- The columns of a range of a matrix, kept: if they are all its columns, the matrix itself.
use Rattle.std.proofs.Common.{◌≡◌, ℕ, zero, suc, ◌<◌, List, sym, subst, arith}
use Rattle.std.specs.Prelude.{All, Contains}
use Rattle.std.proofs.lemmas.List.Elements.{All-weaker}
use Rattle.cb_semirings.specs.Arithmetic.{Arithmetic}
use Rattle.cb_semirings.specs.declared.names.SemiringName.{SemiringName}
use Rattle.cb_matrix.specs.Sparse.{Sparse, Extent, IsInside}
use Rattle.cb_matrix.specs.Values.{matrix_of}
use Rattle.cb_matrix.proofs.Made.{columns_all}
use Rattle.cb_operations.specs.declared.computations.Computation.{Computation}
use Rattle.cb_operations.specs.declared.computations.Computation.TheVariants.{Operation, Selection, MultiplyOutside}
use Rattle.cb_operations.specs.declared.operations.Operation.TheVariants.{Multiply}
use Rattle.cb_operations.specs.declared.selections.Selection.TheVariants.{Power}
use Rattle.cb_operations.specs.Computations.{answer_of}
use Rattle.cb_operations.specs.OperationAnswers.{matrix_at}
use Rattle.cb_operations.specs.SelectionAnswers.{times_itself}
use Rattle.cb_product.proofs.OnlyColumns.{among_holds, only_all}
use Rattle.cb_shares.specs.Shares.{columns_from, panel}
use Rattle.cb_shares.proofs.Ranges.{range_has}
use Rattle.cb_kept.specs.declared.kept.Kept.{Kept}
use Rattle.cb_kept.specs.Kept.{Keeps}
use Rattle.cb_kept.specs.KeptShares.{IsWhole, KeepsColumns}

-- all entries are inside the shape
abbrev pub AreInside : Sparse → Type 0
AreInside m = All (IsInside m.shape) m.entries

-- so they are in a matrix that is made of its values
pub inside_values : (s : Arithmetic) (shape : Extent) (f : ℕ → ℕ → ℕ) → AreInside (matrix_of s shape f)
inside_values s shape f = columns_all s.zero f (IsInside shape) shape.rows shape.cols (λ i j l k _. (l, k))

inside_power : (s : Arithmetic) (a : Sparse) (n : ℕ) → AreInside a → AreInside (times_itself s a n)
unfolding times_itself
inside_power s a zero h = h
inside_power s a (suc n) h = inside_values s _ _

-- and in the result of a computation
pub inside_answer : (c : Computation) (s : Arithmetic) (ms : List Sparse) → AreInside (matrix_at ms 0) → AreInside (answer_of c s ms)
inside_answer (Operation Multiply) s ms h = inside_values s _ _
inside_answer (Operation _) s ms h = inside_values s _ _
inside_answer (Selection (Power factors)) s ms h = inside_power s _ _ h
inside_answer (Selection _) s ms h = inside_values s _ _
inside_answer MultiplyOutside s ms h = inside_values s _ _

-- the range of all columns is the matrix
pub whole_panel : (m : Sparse) (first end : ℕ) → AreInside m → IsWhole first end m.shape.cols → panel m first end ≡ m
whole_panel m first end inside all =
    let has : (c : ℕ) → c < m.shape.cols → Contains (columns_from 0 end) c =
    λ c l. let few = all.to_end in among_holds (columns_from 0 end) c (range_has 0 end c (omega arith) (omega arith)) in
    subst (λ n. panel m n end ≡ m) (sym all.from_start)
    (only_all (columns_from 0 end) m (All-weaker (IsInside m.shape) (λ e. Contains (columns_from 0 end) e.column) (λ e k. has e.column k.1) m.entries inside))

-- so its columns, kept, are the matrix, kept
pub keeps_columns : (name : SemiringName) (whole made : Sparse) (first end : ℕ) (kept : Kept) → AreInside whole → made ≡ panel whole first end
    → Keeps name made kept → KeepsColumns name whole first end kept
keeps_columns name whole made first end kept inside e keeps =
    let some : Keeps name (panel whole first end) kept = subst (λ x. Keeps name x kept) e keeps in
    record { columns = some; all = λ all. subst (λ x. Keeps name x kept) (whole_panel whole first end inside all) some }
