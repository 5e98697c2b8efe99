-- What C gets of a call that keeps a matrix.
use Rattle.std.proofs.Common.{◌≡◌, ◌≢◌, ℕ, refl, sym, subst, inl, inr, ⊎_elim, arith}
use Rattle.std.specs.Prelude.{Option, Result, Ok, Err, IfOk, IfErr}
use Rattle.cb_kept.specs.declared.faults.Fault.{Fault}
use Rattle.cb_kept.specs.declared.faults.Fault.TheVariants.{Memory}
use Rattle.cb_kept.specs.declared.kept.Kept.{Kept}
use Rattle.cb_kept_graphs.specs.declared.KeptAnswer.{KeptAnswer}
use Rattle.cb_kept_graphs.specs.declared.KeptAnswer.TheVariants.{Matrix, Number}
use Rattle.cb_ffi.specs.declared.handles.OwnedMatrix.{OwnedMatrix}
use Rattle.cb_kept.specs.Refusals.{code_of}
use Rattle.cb_kept.specs.Answers.{IsAnswer, IsFaultLine}
use Rattle.cb_ffi.specs.Calls.{IsCall, IsLine}
use Rattle.cb_ffi.specs.KeptCalls.{Has, HasEither, HasHandedOut, HasWritten, IsKeptCall}
use Rattle.cb_market_lines.specs.declared.ReadFault.{ReadFault}
use Rattle.cb_ffi.proofs.Calls.{call_of, line_at}

-- the result as C gets it: memory may be refused for the handle
pub kept_call_of : (faults : Fault → Type 0) (is : Kept → Type 0) (r : Result Kept Fault) (code : ℕ) (old new : OwnedMatrix) → IsAnswer faults is r
    → IfOk r (HasHandedOut code old new) → IfErr r (λ f. (code ≡ code_of f) × (code ≢ 0) × (new ≡ old)) → IsKeptCall faults is code old new
kept_call_of faults is (Ok x) code old new a h k =
    ⊎_elim
    (λ g. record { answer = λ _. (a.0, (g.1.0, g.1.1, subst is (sym g.1.2) a.1)); fault = λ n. absurd (n g.0); unchanged = λ n. absurd (n g.0) })
    (λ g. record { answer = λ z. absurd (let e : code ≡ 14 = g.0 in omega arith); fault = λ _. (Memory, g.0, (a.0).memory); unchanged = λ _. g.1 })
    h
kept_call_of faults is (Err f) code old new a h k = call_of faults (Has is) (Err f) code old new a tt k

-- two places are as they were
both_same : (old new : OwnedMatrix × ℕ) → new.0 ≡ old.0 → new.1 ≡ old.1 → new ≡ old
both_same old new e f = subst (λ x. new ≡ (x, old.1)) e (subst (λ y. new ≡ (new.0, y)) f refl)

-- the answer of a task on a graph as C gets it: memory may be refused for the handle
pub graph_call_of : (faults : Fault → Type 0) (is : KeptAnswer → Type 0) (r : Result KeptAnswer Fault) (code : ℕ) (old new : OwnedMatrix × ℕ) → IsAnswer faults is r
    → IfOk r (HasWritten code old new) → IfErr r (λ f. (code ≡ code_of f) × (code ≢ 0) × (new.0 ≡ old.0) × (new.1 ≡ old.1)) → IsCall faults (HasEither is old) code old new
graph_call_of faults is (Ok (Matrix k)) code old new a h e =
    ⊎_elim
    (λ g. record {
      answer = λ _. (a.0, inl ((g.1.0, g.1.1, subst (λ x. is (Matrix x)) (sym g.1.2) a.1), h.1));
      fault = λ n. absurd (n g.0);
      unchanged = λ n. absurd (n g.0);
    })
    (λ g. record {
      answer = λ z. absurd (let e : code ≡ 14 = g.0 in omega arith);
      fault = λ _. (Memory, g.0, (a.0).memory);
      unchanged = λ _. both_same old new g.1 h.1;
    })
    h.0
graph_call_of faults is (Ok (Number n)) code old new a h e = record {
  answer = λ _. (a.0, inr (subst (λ x. is (Number x)) (sym h.1) a.1, h.2));
  fault = λ n. absurd (n h.0);
  unchanged = λ n. absurd (n h.0);
}
graph_call_of faults is (Err f) code old new a h e = record { answer = λ z. absurd (e.1 z); fault = λ _. (f, e.0, a); unchanged = λ _. both_same old new e.2 e.3 }

-- the line of a text that is read
pub kept_line_of : (first : Option ReadFault) (r : Result Kept Fault) (code old new : ℕ) (was now : OwnedMatrix) → IsFaultLine first r old new
    → IfOk r (HasHandedOut code was now) → IfErr r (λ f. (code ≡ code_of f) × (code ≢ 0) × (now ≡ was)) → IsLine first code old new
kept_line_of first (Ok x) code old new was now a h k =
    ⊎_elim
    (λ g. let e = g.0 in record { text = λ z. absurd (omega arith); other = λ _. a })
    (λ g. let e : code ≡ 14 = g.0 in record { text = λ z. absurd (omega arith); other = λ _. a })
    h
kept_line_of first (Err f) code old new was now a h k = line_at first f code old new a k.0
