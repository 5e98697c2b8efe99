-- What a call returns.
use Rattle.std.specs.Prelude.{◌≡◌, ℕ, Option, Some, Result, Ok, Err}
use Rattle.cb_market_lines.specs.declared.ReadFault.{ReadFault}
use Rattle.cb_kept.specs.declared.faults.Fault.{Fault}
use Rattle.cb_kept.specs.declared.faults.Fault.TheVariants.{Text, Memory}

-- no fault but refused memory, which may come at any time
pub record NoFault (faults : Fault → Type 0) : Type 0 where
  pub memory : faults Memory
  pub only : (f : Fault) → faults f → f ≡ Memory

-- the result, if there is no fault, or else the first fault
abbrev pub IsAnswer : {X : Type 0} → (Fault → Type 0) → (X → Type 0) → Result X Fault → Type 0
IsAnswer faults is (Ok x) = NoFault faults × is x
IsAnswer faults is (Err f) = faults f

-- the line of the first fault of a text, if the fault is one of the text; any other fault leaves the number as it was
abbrev pub IsLineOf : Option ReadFault → Fault → ℕ → ℕ → Type 0
IsLineOf first Text old new = (g : ReadFault) × (first ≡ Some g) × (new ≡ g.line)
IsLineOf first f old new = new ≡ old

-- the same, also without a fault
abbrev pub IsFaultLine : {X : Type 0} → Option ReadFault → Result X Fault → ℕ → ℕ → Type 0
IsFaultLine first (Ok x) old new = new ≡ old
IsFaultLine first (Err f) old new = IsLineOf first f old new
