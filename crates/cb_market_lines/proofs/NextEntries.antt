-- The faults and the entries of a text, one entry on.
use Rattle.std.proofs.Common.{◌≡◌, ◌≢◌, ℕ, ◌+◌, ◌-◌, ◌≤◌, Option, List, ap, ◌∙◌, refl, inl, inr}
use Rattle.std.specs.Prelude.{Result, Ok, Err, is_err, OnOk, false}
use Rattle.cb_semirings.specs.Arithmetic.{Arithmetic, IsValue, ReadsNumbers}
use Rattle.cb_matrix.specs.declared.Entry.{Entry}
use Rattle.cb_matrix.specs.Sparse.{Extent, IsInside}
use Rattle.cb_market_lines.specs.declared.Kind.{Kind}
use Rattle.cb_market_lines.specs.declared.Kind.TheVariants.{ExtraEntry, Memory}
use Rattle.cb_market_lines.specs.declared.ReadFault.{ReadFault}
use Rattle.cb_market_lines.specs.declared.header.Header.{Header}
use Rattle.cb_market_lines.specs.Lines.{kept_from}
use Rattle.cb_market_lines.specs.Faults.{entries_fault, IsAnswer, IsNextEntry}
use Rattle.cb_market_lines.proofs.Bodies.{entry_inside, entry_value}
use Rattle.cb_market_lines.proofs.LineFaults.{extra, passed, refused, kept_numbers}

module _ (s : Arithmetic) (header : Header) (shape : Extent) (n left k : ℕ) (text : List ℕ) (m : ℕ) (rest : List ℕ) (all : Option ReadFault) where
  -- an entry too many
  pub next_extra : (found : Result Entry Kind) → entries_fault s header shape n left (kept_from k text) ≡ all → left ≡ 0 → IsNextEntry s header shape k text m found rest → IsAnswer all (record { line = m; kind = ExtraEntry })
  next_extra found e z h = extra s header shape n left (kept_from k text) (m, h.line_words) (kept_from (m + 1) rest) all (record { line = m; kind = ExtraEntry }) e z h.kept refl

  -- the fault of its line
  pub next_refused : (kind : Kind) → entries_fault s header shape n left (kept_from k text) ≡ all → left ≢ 0 → m + 1 ≤ n → IsNextEntry s header shape k text m (Err kind) rest → IsAnswer all (record { line = m; kind = kind })
  next_refused kind e z l h = refused s header shape n left (kept_from k text) (m, h.line_words) (kept_from (m + 1) rest) all (record { line = m; kind = kind }) e z h.kept (kept_numbers (m + 1) rest) l (refl, inl h.found_is)

  -- memory refused at its line
  pub next_memory : (entry : Entry) → entries_fault s header shape n left (kept_from k text) ≡ all → left ≢ 0 → m + 1 ≤ n → IsNextEntry s header shape k text m (Ok entry) rest → IsAnswer all (record { line = m; kind = Memory })
  next_memory entry e z l h = refused s header shape n left (kept_from k text) (m, h.line_words) (kept_from (m + 1) rest) all (record { line = m; kind = Memory }) e z h.kept (kept_numbers (m + 1) rest) l (refl, inr (h.found_is.0, refl))

  -- an entry more was read, and the next line has this number
  pub next_passed : (entry : Entry) (j : ℕ) → j ≡ m + 1 → entries_fault s header shape n left (kept_from k text) ≡ all → left ≢ 0 → IsNextEntry s header shape k text m (Ok entry) rest → entries_fault s header shape n (left - 1) (kept_from j rest) ≡ all
  next_passed entry j i e z h = ap (λ a. entries_fault s header shape n (left - 1) (kept_from a rest)) i ∙ passed s header shape n left (kept_from k text) (m, h.line_words) (kept_from (m + 1) rest) all e z h.kept h.found_is.0

-- it is inside the shape
pub next_inside : (s : Arithmetic) (header : Header) (shape : Extent) (k : ℕ) (text : List ℕ) (m : ℕ) (rest : List ℕ) (entry : Entry) → IsNextEntry s header shape k text m (Ok entry) rest → IsInside shape entry
next_inside s header shape k text m rest entry h = rw h.found_is.1 (entry_inside s header shape h.line_words h.found_is.0)

-- its value is one of the semiring
pub next_value : (s : Arithmetic) (numbers : ReadsNumbers s) (header : Header) (shape : Extent) (k : ℕ) (text : List ℕ) (m : ℕ) (rest : List ℕ) (entry : Entry) → IsNextEntry s header shape k text m (Ok entry) rest → IsValue s entry.value
next_value s numbers header shape k text m rest entry h = rw h.found_is.1 (entry_value s numbers header shape h.line_words h.found_is.0)

-- what holds at Ok, where there was no error
pub at_ok : {A E : Type 0} (r : Result A E) (P : Type 0) → is_err r ≡ false → OnOk r P → P
at_ok (Ok a) P e h = h
at_ok (Err b) P e h = cc
