-- The results of a function for each entry, in place of the values.
use Rattle.std.proofs.Common.{◌≡◌, ◌≢◌, ℕ, ◌<◌, true, false, cond, List, [], ◌∷◌, length, get_or, sym, refl, ◌∙◌, subst, arith}
use Rattle.std.specs.Prelude.{All, IfOk, IfSome, Option, Some, None, Result, Ok, Err}
use Rattle.std.proofs.lemmas.Bool.{true≢false}
use Rattle.std.proofs.lemmas.List.{same_lists, length-map, get_or-map, get_or_default}
use Rattle.std.proofs.lemmas.List.Elements.{All-head, All-tail, All-map, All-get_or, All-from_get_or, All-weaker}
use Rattle.cb_semirings.specs.Arithmetic.{Arithmetic, IsValue, IsSemiring}
use Rattle.cb_matrix.specs.declared.Entry.{Entry}
use Rattle.cb_matrix.specs.Sparse.{Sparse, IsMatrix, IsInside, is_at, value_at, at}
use Rattle.cb_matrix.proofs.Equal.{matrix_is}
use Rattle.cb_matrix.proofs.Places.{is_at-parts}
use Rattle.cb_dcsc.specs.Columns.{revalued, rows_of, values_of}
use Rattle.cb_dcsc.proofs.Revalued.{revalued_matrix}
use Rattle.cb_operations.specs.declared.functions.Function.{Function}
use Rattle.cb_operations.specs.declared.functions.Function.TheVariants.{Constant, Sum, LeftProduct, RightProduct, Row, Column}
use Rattle.cb_operations.specs.Functions.{operand_of, function_value}
use Rattle.cb_selections.specs.KernelSteps.{AreMade, IsResult, depends_on_column}
use Rattle.cb_elementwise.specs.RuleLaws.{function_value-value}
use Rattle.cb_operations.specs.SelectionAnswers.{of_stored}
use Rattle.cb_operations.specs.SelectionAnswers.{applied}
use Rattle.cb_selections.specs.KernelSteps.{results_of}
use Rattle.cb_elementwise.proofs.ReplacedColumn.{of_stored-some, of_stored-none}

-- a function that doesn't depend on the column has the same operand in each
pub operand_anywhere : (f : Function) → depends_on_column f ≡ false → (i j k : ℕ) → operand_of f i j ≡ operand_of f i k
operand_anywhere (Constant n) e i j k = refl
operand_anywhere (Sum n) e i j k = refl
operand_anywhere (LeftProduct n) e i j k = refl
operand_anywhere (RightProduct n) e i j k = refl
operand_anywhere Row e i j k = refl
operand_anywhere Column e i j k = absurd (true≢false e)

-- and the same result
pub result_anywhere : (s : Arithmetic) (f : Function) → depends_on_column f ≡ false → (i j k x : ℕ) → function_value s f i j x ≡ function_value s f i k x
result_anywhere s (Constant n) e i j k x = refl
result_anywhere s (Sum n) e i j k x = refl
result_anywhere s (LeftProduct n) e i j k x = refl
result_anywhere s (RightProduct n) e i j k x = refl
result_anywhere s Row e i j k x = refl
result_anywhere s Column e i j k x = absurd (true≢false e)

-- what a rule makes is what a weaker one makes, if it is made at all
pub made_as : {A E : Type 0} (items : A → List ℕ) (IsMade Is : ℕ → ℕ → ℕ → Type 0) → ((row value made : ℕ) → IsMade row value made → Is row value made) → (rows values : List ℕ) (result : Result (Option A) E)
    → IfOk result (λ made. IfSome made (λ list. AreMade IsMade rows values (items list))) → IfOk result (λ made. IfSome made (λ list. AreMade Is rows values (items list)))
made_as items IsMade Is weaker rows values (Ok (Some list)) are = record { as_long = are.as_long; each = λ k l. weaker (get_or rows k 0) (get_or values k 0) (get_or (items list) k 0) (are.each k l) }
made_as items IsMade Is weaker rows values (Ok None) are = tt
made_as items IsMade Is weaker rows values (Err error) are = tt

-- an entry for reads past the end
abbrev no_entry : Entry
no_entry = record { row = 0; column = 0; value = 0 }

module _ (s : Arithmetic) (f : Function) where
  abbrev result : Entry → ℕ
  result e = function_value s f e.row e.column e.value

  -- the results by row and value, in column 0, are those of the entries
  pub results_are : depends_on_column f ≡ false → (es : List Entry) (new : List ℕ) → AreMade (IsResult s f) (rows_of es) (values_of es) new → new ≡ results_of s f es
  results_are free es new are =
      let long : length new ≡ length es = are.as_long ∙ length-map es (λ (e : Entry). e.value) in
      let rows : length (rows_of es) ≡ length es = length-map es (λ (e : Entry). e.row) in
      same_lists new (results_of s f es) (long ∙ sym (length-map es result)) (λ k d l.
      let b : k < length es = omega (arith, long, l) in
      let e = get_or es k no_entry in
      let row : get_or (rows_of es) k 0 ≡ e.row = get_or-map (λ (e : Entry). e.row) es k no_entry 0 b in
      let value : get_or (values_of es) k 0 ≡ e.value = get_or-map (λ (e : Entry). e.value) es k no_entry 0 b in
      get_or_default new k d 0 l ∙ are.each k (omega (arith, rows, b))
      ∙ (λ z. function_value s f (row z) 0 (value z))
      ∙ result_anywhere s f free e.row 0 e.column e.value
      ∙ sym (get_or-map result es k no_entry d b))

  -- so is what was made of the lists of a matrix, if it was made
  pub made_are : {A : Type 0} (items : A → List ℕ) → depends_on_column f ≡ false → (es : List Entry) (rows values : List ℕ) → rows ≡ rows_of es → values ≡ values_of es
      → (made : Option A) (list : A) → made ≡ Some list → IfSome made (λ list. AreMade (IsResult s f) rows values (items list)) → items list ≡ results_of s f es
  made_are items free es rows values are_rows are_values made list is are =
      let h = subst (λ o. IfSome o (λ list. AreMade (IsResult s f) rows values (items list))) is are in
      results_are free es (items list) (subst (λ xs. AreMade (IsResult s f) xs (values_of es) (items list)) are_rows (subst (λ ys. AreMade (IsResult s f) rows ys (items list)) are_values h))

  -- the value at a place of the entries with them
  value_here : (es : List Entry) (i j : ℕ) → All (λ (e : Entry). e.value ≢ s.zero) es → value_at s.zero (revalued es (results_of s f es)) i j ≡ of_stored s.zero (function_value s f i j) (value_at s.zero es i j)
  unfolding value_at revalued
  value_here [] i j some = sym (of_stored-none s.zero (function_value s f i j) s.zero refl)
  value_here (e ∷ es) i j some =
      elim (is_at i j e) as (λ b. is_at i j e ≡ b → cond b (result e) (value_at s.zero (revalued es (results_of s f es)) i j) ≡ of_stored s.zero (function_value s f i j) (cond b e.value (value_at s.zero es i j))) [
        | true ↦ λ t.
            let here = is_at-parts e i j t in
            sym (λ z. function_value s f (here.0 z) (here.1 z) e.value)
            ∙ sym (of_stored-some s.zero (function_value s f i j) e.value (All-head (λ (e : Entry). e.value ≢ s.zero) e es some))
        | false ↦ λ _. value_here es i j (All-tail (λ (e : Entry). e.value ≢ s.zero) e es some)
      ] refl

  -- the operands of all entries, in column 0, are values
  pub are_operands : depends_on_column f ≡ false → (a : Sparse) → IsMatrix s a → ((i j : ℕ) → i < a.shape.rows → j < a.shape.cols → IsValue s (operand_of f i j)) → All (λ i. IsValue s (operand_of f i 0)) (rows_of a.entries)
  are_operands free a is operands =
      All-map (λ i. IsValue s (operand_of f i 0)) (λ (e : Entry). e.row) a.entries (All-weaker (IsInside a.shape) (λ (e : Entry). IsValue s (operand_of f e.row 0))
      (λ e inside. subst (IsValue s) (operand_anywhere f free e.row e.column 0) (operands e.row e.column inside.0 inside.1)) a.entries is.inside)

  -- results are values
  pub are_results : IsSemiring s → (a : Sparse) → IsMatrix s a → ((i j : ℕ) → i < a.shape.rows → j < a.shape.cols → IsValue s (operand_of f i j)) → All (IsValue s) (results_of s f a.entries)
  are_results laws a is operands =
      All-map (IsValue s) result a.entries (All-from_get_or (λ e. IsValue s (result e)) a.entries no_entry (λ k l.
      let e = get_or a.entries k no_entry in
      let inside = All-get_or (IsInside a.shape) a.entries k no_entry l is.inside in
      function_value-value s laws f e.row e.column e.value (operands e.row e.column inside.0 inside.1) (All-get_or (λ (e : Entry). IsValue s e.value) a.entries k no_entry l is.values)))

  -- entries with results other than zero in place of their values are the matrix with the function applied
  pub applied_is : IsSemiring s → (a : Sparse) → IsMatrix s a → ((i j : ℕ) → i < a.shape.rows → j < a.shape.cols → IsValue s (operand_of f i j)) → All (λ v. v ≢ s.zero) (results_of s f a.entries)
      → record { shape = a.shape; entries = revalued a.entries (results_of s f a.entries) } ≡ applied s f a
  applied_is laws a is operands some =
      let vs = results_of s f a.entries in
      let m : Sparse = record { shape = a.shape; entries = revalued a.entries vs } in
      matrix_is s laws m a.shape (λ i j. of_stored s.zero (function_value s f i j) (at s a i j)) (revalued_matrix s a vs is (are_results laws a is operands) some) refl (λ i j l k. value_here a.entries i j is.not_zero)
