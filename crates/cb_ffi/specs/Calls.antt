-- What C gets of a call.
use Rattle.std.specs.Prelude.{◌≡◌, ◌≢◌, ℕ, Option, Some}
use Rattle.cb_market_lines.specs.declared.ReadFault.{ReadFault}
use Rattle.cb_kept.specs.declared.faults.Fault.{Fault}
use Rattle.cb_kept.specs.declared.faults.Fault.TheVariants.{Text}
use Rattle.cb_kept.specs.Refusals.{code_of}
use Rattle.cb_kept.specs.Answers.{NoFault}

-- code 0 and the result, or else the number of the first fault, and what was there before
pub record IsCall {X : Type 0} (faults : Fault → Type 0) (is : X → Type 0) (code : ℕ) (old new : X) : Type 0 where
  pub answer : code ≡ 0 → NoFault faults × is new
  pub fault : code ≢ 0 → (f : Fault) × (code ≡ code_of f) × faults f
  pub unchanged : code ≢ 0 → new ≡ old

-- the line of the first fault of a text, if the code is that of a text's fault; any other code leaves the number as it was
pub record IsLine (first : Option ReadFault) (code old new : ℕ) : Type 0 where
  pub text : code ≡ code_of Text → (g : ReadFault) × (first ≡ Some g) × (new ≡ g.line)
  pub other : code ≢ code_of Text → new ≡ old
