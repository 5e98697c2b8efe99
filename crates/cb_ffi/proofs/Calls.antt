-- What C gets of a call, from its result.
use Rattle.std.proofs.Common.{◌≡◌, ◌≢◌, ℕ, sym, subst, arith}
use Rattle.std.specs.Prelude.{Option, Result, Ok, Err, IfOk, IfErr}
use Rattle.cb_kept.specs.declared.faults.Fault.{Fault}
use Rattle.cb_kept.specs.declared.faults.Fault.TheVariants.{Text}
use Rattle.cb_kept.specs.Refusals.{code_of}
use Rattle.cb_kept.specs.Answers.{IsAnswer, IsLineOf}
use Rattle.cb_ffi.specs.Calls.{IsCall, IsLine}
use Rattle.cb_market_lines.specs.declared.ReadFault.{ReadFault}

-- the result as C gets it
pub call_of : {X : Type 0} (faults : Fault → Type 0) (is : X → Type 0) (r : Result X Fault) (code : ℕ) (old new : X) → IsAnswer faults is r
    → IfOk r (λ x. (code ≡ 0) × (new ≡ x)) → IfErr r (λ f. (code ≡ code_of f) × (code ≢ 0) × (new ≡ old)) → IsCall faults is code old new
call_of faults is (Ok x) code old new a h k = record {
  answer = λ _. (a.0, subst is (sym h.1) a.1);
  fault = λ n. absurd (n h.0);
  unchanged = λ n. absurd (n h.0);
}
call_of faults is (Err f) code old new a h k = record {
  answer = λ z. absurd (k.1 z);
  fault = λ _. (f, k.0, a);
  unchanged = λ _. k.2;
}

-- the line that a fault leaves, as C gets it
pub line_at : (first : Option ReadFault) (f : Fault) (code old new : ℕ) → IsLineOf first f old new → code ≡ code_of f → IsLine first code old new
line_at first Text code old new a e = record { text = λ _. a; other = λ n. absurd (n e) }
line_at first f code old new a e = record { text = λ z. absurd (omega arith); other = λ _. a }
