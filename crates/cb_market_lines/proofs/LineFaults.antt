-- The faults of entries, line by line.
use Rattle.std.proofs.Common.{◌≡◌, ◌≢◌, ℕ, zero, suc, ◌+◌, ◌-◌, ◌≤◌, ◌<◌, Option, Some, None, List, [], ◌∷◌, arith, sym, ap, ◌∙◌, refl, inl, inr, subst, map, filter, true, false, not, ⊎_elim}
use Rattle.std.specs.List.{enumerate_from}
use Rattle.std.proofs.lemmas.Bool.{cases_Bool}
use Rattle.std.specs.Prelude.{IfSome}
use Rattle.cb_semirings.specs.Arithmetic.{Arithmetic}
use Rattle.cb_matrix.specs.Sparse.{Extent}
use Rattle.cb_market_lines.specs.declared.Kind.{Kind}
use Rattle.cb_market_lines.specs.declared.Kind.TheVariants.{ExtraEntry, MissingEntries, Memory}
use Rattle.cb_market_lines.specs.declared.ReadFault.{ReadFault}
use Rattle.cb_market_lines.specs.declared.header.Header.{Header}
use Rattle.cb_market_lines.specs.Lines.{kept_from, lines, words, is_skipped}
use Rattle.cb_market_lines.specs.Checks.{entry_fault}
use Rattle.cb_market_lines.specs.Faults.{entries_fault, IsAnswer, IsLineAnswer, at_line}

-- the entries that are left have the faults of all
abbrev pub SameFault : Arithmetic → Header → Extent → ℕ → ℕ → List (ℕ × List (List ℕ)) → ℕ → List (ℕ × List (List ℕ)) → Type 0
SameFault s header shape n count all left rest = entries_fault s header shape n left rest ≡ entries_fault s header shape n count all

-- each line has this number or a later one
abbrev pub From : ℕ → List (ℕ × List (List ℕ)) → Type 0
From k [] = Unit {0}
From k (l ∷ ls) = (k ≤ l.0) × From k ls

from_filter : (k : ℕ) (n : ℕ) (ws : List (List (List ℕ))) → k ≤ n → From k (filter (λ l. not (is_skipped l.1)) (enumerate_from n ws))
from_filter k n [] h = tt
from_filter k n (w ∷ ws) h =
    let rest = from_filter k (n + 1) ws (omega (arith, h)) in
    ⊎_elim (λ (e : is_skipped w ≡ true). rw e rest) (λ (e : is_skipped w ≡ false). rw e (h, rest)) (cases_Bool (is_skipped w))

-- the kept lines of a text have the number of its first line or a later one
pub kept_numbers : (n : ℕ) (text : List ℕ) → From n (kept_from n text)
unfolding kept_from
kept_numbers n text = from_filter n n (map words (lines text)) (omega arith)

at_line_later : (k m : ℕ) (fault : Option Kind) (rest : Option ReadFault) → k ≤ m → IfSome rest (λ g. k ≤ g.line) → IfSome (at_line m fault rest) (λ g. k ≤ g.line)
at_line_later k m None rest h f = f
at_line_later k m (Some kind) rest h f = h

later : (s : Arithmetic) (header : Header) (shape : Extent) (n k left : ℕ) (ls : List (ℕ × List (List ℕ))) → From k ls → k ≤ n → IfSome (entries_fault s header shape n left ls) (λ g. k ≤ g.line)
unfolding entries_fault
later s header shape n k zero [] f h = tt
later s header shape n k (suc left) [] f h = h
later s header shape n k zero (l ∷ ls) f h = f.0
later s header shape n k (suc left) (l ∷ ls) f h = at_line_later k l.0 (entry_fault s header shape l.1) (entries_fault s header shape n left ls) f.0 (later s header shape n k left ls f.1 h)

left_one : (left : ℕ) → suc left - 1 ≡ left
left_one left = omega arith

abbrev pub record_at : ℕ → Kind → ReadFault
record_at n kind = record { line = n; kind = kind }

-- an entry too many
pub extra : (s : Arithmetic) (header : Header) (shape : Extent) (n left : ℕ) (ls : List (ℕ × List (List ℕ))) (l : ℕ × List (List ℕ)) (more : List (ℕ × List (List ℕ))) (all : Option ReadFault) (f : ReadFault) → entries_fault s header shape n left ls ≡ all → left ≡ 0 → ls ≡ l ∷ more → f ≡ record { line = l.0; kind = ExtraEntry } → IsAnswer all f
unfolding entries_fault
extra s header shape n left ls l more all f e z h k = inl (sym e ∙ ap (λ i. entries_fault s header shape n i ls) z ∙ ap (entries_fault s header shape n zero) h ∙ ap Some (sym k))

-- no more entries
pub missing : (s : Arithmetic) (header : Header) (shape : Extent) (n left : ℕ) (ls : List (ℕ × List (List ℕ))) (all : Option ReadFault) (f : ReadFault) → entries_fault s header shape n left ls ≡ all → left ≢ 0 → ls ≡ [] → f ≡ record { line = n; kind = MissingEntries } → IsAnswer all f
unfolding entries_fault
missing s header shape n zero ls all f e z h k = absurd (z refl)
missing s header shape n (suc left) ls all f e z h k = inl (sym e ∙ ap (entries_fault s header shape n (suc left)) h ∙ ap Some (sym k))

-- if no line is left and no entry is missing, there is no fault
pub complete : (s : Arithmetic) (header : Header) (shape : Extent) (n left : ℕ) (ls : List (ℕ × List (List ℕ))) (all : Option ReadFault) → entries_fault s header shape n left ls ≡ all → left ≡ 0 → ls ≡ [] → all ≡ None
unfolding entries_fault
complete s header shape n left ls all e z h = sym e ∙ ap (λ i. entries_fault s header shape n i ls) z ∙ ap (entries_fault s header shape n zero) h

-- an entry without a fault
pub passed : (s : Arithmetic) (header : Header) (shape : Extent) (n left : ℕ) (ls : List (ℕ × List (List ℕ))) (l : ℕ × List (List ℕ)) (more : List (ℕ × List (List ℕ))) (all : Option ReadFault) → entries_fault s header shape n left ls ≡ all → left ≢ 0 → ls ≡ l ∷ more → entry_fault s header shape l.1 ≡ None → entries_fault s header shape n (left - 1) more ≡ all
unfolding entries_fault
passed s header shape n zero ls l more all e z h k = absurd (z refl)
passed s header shape n (suc left) ls l more all e z h k =
    ap (λ i. entries_fault s header shape n i more) (left_one left) ∙ sym (ap (λ b. at_line l.0 b (entries_fault s header shape n left more)) k) ∙ sym (ap (entries_fault s header shape n (suc left)) h) ∙ e

-- an entry with a fault, or for which memory is refused
refused_fault : (s : Arithmetic) (header : Header) (shape : Extent) (n left : ℕ) (l : ℕ × List (List ℕ)) (more : List (ℕ × List (List ℕ))) (f : ReadFault) → f.line ≡ l.0 → entry_fault s header shape l.1 ≡ Some f.kind → entries_fault s header shape n (suc left) (l ∷ more) ≡ Some f
unfolding entries_fault
refused_fault s header shape n left l more f e h = ap (λ b. at_line l.0 b (entries_fault s header shape n left more)) h ∙ ap (λ m. Some (record { line = m; kind = f.kind })) (sym e)

after_memory : (s : Arithmetic) (header : Header) (shape : Extent) (n left : ℕ) (l : ℕ × List (List ℕ)) (more : List (ℕ × List (List ℕ))) → From (l.0 + 1) more → l.0 + 1 ≤ n → entry_fault s header shape l.1 ≡ None → IfSome (entries_fault s header shape n (suc left) (l ∷ more)) (λ g. l.0 + 1 ≤ g.line)
unfolding entries_fault
after_memory s header shape n left l more h k e = rw e (later s header shape n (l.0 + 1) left more h k)

if_some_before : (all : Option ReadFault) (m k : ℕ) → k ≡ m → IfSome all (λ g. m + 1 ≤ g.line) → IfSome all (λ g. k < g.line)
if_some_before None m k e h = tt
if_some_before (Some g) m k e h = omega (arith, h, e)

refused_at : (s : Arithmetic) (header : Header) (shape : Extent) (n left : ℕ) (l : ℕ × List (List ℕ)) (more : List (ℕ × List (List ℕ))) (f : ReadFault) → From (l.0 + 1) more → l.0 + 1 ≤ n → IsLineAnswer l.0 (entry_fault s header shape l.1) f → IsAnswer (entries_fault s header shape n (suc left) (l ∷ more)) f
refused_at s header shape n left l more f h k a =
    ⊎_elim
    (λ (e : entry_fault s header shape l.1 ≡ Some f.kind). inl (refused_fault s header shape n left l more f a.0 e))
    (λ (e : (entry_fault s header shape l.1 ≡ None) × (f.kind ≡ Memory)). inr (e.1, if_some_before (entries_fault s header shape n (suc left) (l ∷ more)) l.0 f.line a.0 (after_memory s header shape n left l more h k e.0)))
    a.1

-- an answer at the line of the next entry is one for all lines
pub refused : (s : Arithmetic) (header : Header) (shape : Extent) (n left : ℕ) (ls : List (ℕ × List (List ℕ))) (l : ℕ × List (List ℕ)) (more : List (ℕ × List (List ℕ))) (all : Option ReadFault) (f : ReadFault) → entries_fault s header shape n left ls ≡ all → left ≢ 0 → ls ≡ l ∷ more → From (l.0 + 1) more → l.0 + 1 ≤ n → IsLineAnswer l.0 (entry_fault s header shape l.1) f → IsAnswer all f
refused s header shape n zero ls l more all f e z h p q a = absurd (z refl)
refused s header shape n (suc left) ls l more all f e z h p q a = subst (λ (o : Option ReadFault). IsAnswer o f) (sym (ap (entries_fault s header shape n (suc left)) h) ∙ e) (refused_at s header shape n left l more f p q a)

-- missing entries at lines of the same number are the same fault
pub at_end : {m n : ℕ} → m ≡ n → record_at m MissingEntries ≡ record_at n MissingEntries
at_end e = ap (λ k. record_at k MissingEntries) e

-- memory that is refused before the first entry
pub no_room : (s : Arithmetic) (header : Header) (shape : Extent) (n k left : ℕ) (ls : List (ℕ × List (List ℕ))) (f : ReadFault) → From (k + 1) ls → k + 1 ≤ n → f ≡ record { line = k; kind = Memory } → IsAnswer (entries_fault s header shape n left ls) f
no_room s header shape n k left ls f h p e = inr (ap (λ (g : ReadFault). g.kind) e, if_some_before (entries_fault s header shape n left ls) k f.line (ap (λ (g : ReadFault). g.line) e) (later s header shape n (k + 1) left ls h p))
