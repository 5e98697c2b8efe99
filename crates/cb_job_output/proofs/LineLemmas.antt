-- Lines that are written after a text.
use Rattle.std.proofs.Common.{◌≡◌, ℕ, List, Bool, true, false, [], ◌++◌, append-nil, refl, sym, subst, inr}
use Rattle.std.specs.Prelude.{Option, Result, Ok, Err, OnOk, OnErr}
use Rattle.std.specs.Io.KnownBytes.{Appends}
use Rattle.cb_job_ends.specs.Sinks.{AppendsPrefix}
use Rattle.cb_job_ends.specs.WriteEnds.{IsTextEnd, end_of_put}
use Rattle.cb_job_ends.specs.declared.faults.JobFault.{JobFault}
use Rattle.cb_job_ends.proofs.SinkLemmas.{Appends-trans, appends_none, prefix_page}

-- a beginning of a text is one of the text and some lines
pub prefix_of_text : (a b : Option (List ℕ)) (text lines : List ℕ) → AppendsPrefix a b text → AppendsPrefix a b (text ++ lines)
prefix_of_text a b text lines p = prefix_page a a b [] text (text ++ lines) lines (text ++ lines) (appends_none a) p refl refl

-- after the text, a beginning of the lines is one of both
pub prefix_of_lines : (a b c : Option (List ℕ)) (text lines : List ℕ) → Appends a b text → AppendsPrefix b c lines → AppendsPrefix a c (text ++ lines)
prefix_of_lines a b c text lines p q = prefix_page a b c text lines lines [] (text ++ lines) p q (sym (append-nil lines)) refl

-- the same of a put that failed
pub prefix_after : {T E : Type 0} (put : Result T E) (a b c : Option (List ℕ)) (text lines : List ℕ) → Appends a b text → OnErr put (AppendsPrefix b c lines) → OnErr put (AppendsPrefix a c (text ++ lines))
prefix_after (Ok x) a b c text lines p q = tt
prefix_after (Err e) a b c text lines p q = prefix_of_lines a b c text lines p q

-- a call that writes a text by puts ends as its last put does
pub text_end : {T E : Type 0} (text : List ℕ) (a b : Option (List ℕ)) (failed : Bool) (put : Result T E) → OnOk put (Appends a b text) → OnOk put (failed ≡ false)
    → OnErr put (AppendsPrefix a b text) → OnErr put (failed ≡ true) → IsTextEnd text a b failed (end_of_put put)
text_end text a b failed (Ok x) whole works prefix fails = record {
  whole = (text, refl, whole);
  fault = tt;
  nothing = tt;
  output = λ e. cc;
  failed = (λ e. cc, λ e. cc);
}
text_end text a b failed (Err e) whole works prefix fails = record {
  whole = tt;
  fault = inr refl;
  nothing = λ h. absurd (h refl);
  output = λ h. (text, refl, prefix);
  failed = (λ h. fails, λ h. refl);
}

-- a text that couldn't be written whole, with lines that were to follow
pub unwritten_lines : {T : Type 0} (text lines : List ℕ) (a b : Option (List ℕ)) (failed : Bool) (fault : JobFault) → IsTextEnd {T = T} text a b failed (Err fault)
    → IsTextEnd {T = T} (text ++ lines) a b failed (Err fault)
unwritten_lines text lines a b failed fault e = record {
  whole = tt;
  fault = e.fault;
  nothing = e.nothing;
  output = λ h. let w = e.output h in (text ++ lines, refl, prefix_of_text a b text lines (subst (AppendsPrefix a b) w.1 w.2));
  failed = e.failed;
}

-- after a whole text the sink works
pub works_after : {T : Type 0} (text : List ℕ) (a b : Option (List ℕ)) (failed : Bool) (x : T) → IsTextEnd text a b failed (Ok x) → failed ≡ false
works_after text a b false x e = refl
works_after text a b true x e = let h = e.failed.1 refl in cc

-- a whole text, and then the end of the lines
pub text_then_lines : {T U E : Type 0} (text lines : List ℕ) (a b c : Option (List ℕ)) (failed after : Bool) (x : T) (put : Result U E)
    → IsTextEnd text a b failed (Ok x) → OnOk put (Appends b c lines) → OnOk put (after ≡ false)
    → OnErr put (AppendsPrefix b c lines) → OnErr put (after ≡ true) → IsTextEnd (text ++ lines) a c after (end_of_put put)
text_then_lines {U = U} {E = E} text lines a b c failed after x (Ok y) e whole works prefix fails =
    let w = e.whole in
    let first = subst (Appends a b) w.1 w.2 in
    text_end {T = U} {E = E} (text ++ lines) a c after (Ok y) (Appends-trans a b c text lines first whole) works tt tt
text_then_lines {U = U} {E = E} text lines a b c failed after x (Err y) e whole works prefix fails =
    let w = e.whole in
    let first = subst (Appends a b) w.1 w.2 in
    text_end {T = U} {E = E} (text ++ lines) a c after (Err y) tt tt (prefix_of_lines a b c text lines first prefix) fails
