-- A text that is read over the base of a semiring says the same over the semiring: nothing in it takes a product.
use Rattle.std.proofs.Common.{◌≡◌, ℕ, zero, suc, List, [], ◌∷◌, refl, sym, ap, ◌∙◌, subst}
use Rattle.std.specs.Prelude.{Result, Ok, Err, IfOk, IfErr}
use Rattle.cb_semirings.specs.Arithmetic.{Arithmetic}
use Rattle.cb_bases.specs.Bases.{IsBaseOf}
use Rattle.cb_matrix.specs.declared.Entry.{Entry}
use Rattle.cb_matrix.specs.Sparse.{Extent, Sparse}
use Rattle.cb_matrix.specs.Values.{collected, matrix_of, total, values_at}
use Rattle.cb_market_lines.specs.declared.header.Header.{Header}
use Rattle.cb_market_lines.specs.Checks.{entry_fault, header_fault, header_of, size_of, size_fault}
use Rattle.cb_market_lines.specs.Faults.{IsAnswer, at_line, body_fault, entries_fault, first_fault, lines_fault}
use Rattle.cb_market_lines.specs.Reads.{AreEntries, Reads}
use Rattle.cb_market_lines.specs.Lines.{begins_blank, lines, words, kept_lines}
use Rattle.cb_market_lines.specs.declared.Kind.TheVariants.{Memory}
use Rattle.cb_market_lines.proofs.Law.{end_memory}
use Rattle.cb_layout.specs.Distributed.{Distributed}
use Rattle.cb_job_ends.specs.declared.faults.JobFault.{JobFault}
use Rattle.cb_job_ends.specs.declared.faults.JobFault.TheVariants.{Read}
use Rattle.cb_job_inputs.specs.Inputs.{IsTextFault, IsTextRead}

module _ (base : Arithmetic) (mul : ℕ → ℕ → ℕ) where
  abbrev s : Arithmetic
  s = record base { mul = mul }

  total_over : (xs : List ℕ) → total base xs ≡ total s xs
  unfolding total
  total_over [] = refl
  total_over (x ∷ xs) = ap (base.add x) (total_over xs)

  collected_over : (shape : Extent) (es : List Entry) → collected base shape es ≡ collected s shape es
  collected_over shape es = λ k. matrix_of base shape (λ i j. total_over (values_at es i j) k)

  entries_over : (header : Header) (shape : Extent) (ls : List (List (List ℕ))) (es : List Entry) → AreEntries base header shape ls es → AreEntries s header shape ls es
  entries_over header shape [] [] h = h
  entries_over header shape [] (e ∷ es) h = absurd h
  entries_over header shape (ws ∷ ls) [] h = absurd h
  entries_over header shape (ws ∷ ls) (e ∷ es) h = (
    record {
      count = h.0.count;
      numbers = h.0.numbers;
      value_word = h.0.value_word;
      row = h.0.row;
      column = h.0.column;
      inside = h.0.inside;
      place = h.0.place;
      value = h.0.value;
    },
    entries_over header shape ls es h.1,
  )

  reads_over : (text : List ℕ) (m : Sparse) → Reads base text m → Reads s text m
  reads_over text m h = record {
    header = h.header;
    size = h.size;
    entries = h.entries;
    first = h.first;
    others = h.others;
    size_words = h.size_words;
    entry_words = h.entry_words;
    text_lines = h.text_lines;
    kept_lines = h.kept_lines;
    is_header = record {
      starts = h.is_header.starts;
      five_words = h.is_header.five_words;
      banner = h.is_header.banner;
      matrix = h.is_header.matrix;
      coordinate = h.is_header.coordinate;
      field = h.is_header.field;
      symmetry = h.is_header.symmetry;
      supported = h.is_header.supported;
    };
    is_size = h.is_size;
    are_entries = entries_over h.header h.size.shape h.entry_words h.entries h.are_entries;
    count = h.count;
    matrix = h.matrix ∙ collected_over h.size.shape _;
  }

  fault_over : (header : Header) (shape : Extent) (n left : ℕ) (ls : List (ℕ × List (List ℕ))) → entries_fault base header shape n left ls ≡ entries_fault s header shape n left ls
  unfolding entries_fault
  fault_over header shape n zero [] = refl
  fault_over header shape n (suc left) [] = refl
  fault_over header shape n zero (l ∷ ls) = refl
  fault_over header shape n (suc left) (l ∷ ls) = ap (at_line l.0 (entry_fault base header shape l.1)) (fault_over header shape n left ls)

  body_over : (header : Header) (n : ℕ) (ls : List (ℕ × List (List ℕ))) → body_fault base header n ls ≡ body_fault s header n ls
  body_over header n [] = refl
  body_over header n (l ∷ ls) = ap (at_line l.0 (size_fault header l.1)) (fault_over header (size_of l.1).shape n (size_of l.1).count ls)

  lines_over : (n : ℕ) (ls : List (List ℕ)) → lines_fault base n ls ≡ lines_fault s n ls
  lines_over n [] = refl
  lines_over n (l ∷ ls) = ap (at_line 1 (header_fault base (begins_blank l) (words l))) (body_over (header_of (words l)) n (kept_lines 2 ls))

  first_over : (text : List ℕ) → first_fault base text ≡ first_fault s text
  unfolding first_fault
  first_over text = lines_over _ (lines text)

module _ (s base : Arithmetic) (has : IsBaseOf s base) where
  -- what it says of a matrix
  reads_too : (text : List ℕ) (m : Sparse) → Reads base text m → Reads s text m
  reads_too text m h = subst (λ t. Reads t text m) (sym has) (reads_over base s.mul text m h)

  -- and its first fault
  first_too : (text : List ℕ) → first_fault base text ≡ first_fault s text
  first_too text = first_over base s.mul text ∙ ap (λ t. first_fault t text) (sym has)

  -- a matrix that was read over the base was read over the semiring
  pub read_too : (side place : ℕ) (text : List ℕ) (m n : Distributed) → IsTextRead base side place text (Ok m) → n ≡ m → IsTextRead s side place text (Ok n)
  read_too side place text m n h same = rw same (reads_too text m.matrix h.0, h.1)

  -- memory may be refused once it is read
  pub refused_too : (side place : ℕ) (text : List ℕ) (m : Distributed) → IsTextRead base side place text (Ok m) → IsTextFault s place text (Read place (record { line = 1; kind = Memory }))
  refused_too side place text m h = (refl, end_memory s text m.matrix 1 (reads_too text m.matrix h.0))

  -- a fault over the base is one over the semiring
  pub fault_too : (place : ℕ) (text : List ℕ) (fault : JobFault) → IsTextFault base place text fault → IsTextFault s place text fault
  fault_too place text (Read which fault) h = (h.0, subst (λ f. IsAnswer f fault) (first_too text) h.1)
  fault_too place text _ h = absurd h

-- the matrix, the side and the fault of a text that was read, or not
module _ (s : Arithmetic) (side place : ℕ) (text : List ℕ) where
  pub matrix_read : (r : Result Distributed JobFault) → IsTextRead s side place text r → IfOk r (λ m. Reads s text m.matrix)
  matrix_read (Ok m) h = h.0
  matrix_read (Err f) h = tt

  pub side_read : (r : Result Distributed JobFault) → IsTextRead s side place text r → IfOk r (λ m. m.side ≡ side)
  side_read (Ok m) h = h.1
  side_read (Err f) h = tt

  pub fault_read : (r : Result Distributed JobFault) → IsTextRead s side place text r → IfErr r (IsTextFault s place text)
  fault_read (Ok m) h = tt
  fault_read (Err f) h = h
