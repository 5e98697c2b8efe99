-- The lines that report faults.
use Rattle.std.specs.Prelude.{ℕ, List, ◌++◌, ◌==◌, ◌||◌, nat_lt, cond, map, codes, decimal, String}
use Rattle.cb_job_ends.specs.declared.faults.JobFault.{JobFault}
use Rattle.cb_job_ends.specs.declared.faults.JobFault.TheVariants.{Read, Refused, Ranks, Memory, Output, Absent}
use Rattle.cb_market_lines.specs.Kinds.{kind_text}
use Rattle.cb_operations.specs.RefusalTexts.{refusal_text}
use Rattle.cb_job_files.specs.Files.{name_at}
use Rattle.cb_rank_faults.specs.RanksFaults.{ranks_fault_text}

-- the line of a text
abbrev pub plain_line_of : List ℕ → List ℕ
plain_line_of text = codes "cbgrid: " ++ text ++ codes "\n"

-- a byte of a name as it is shown: a question mark in place of a control character, so that a message is one line
abbrev pub shown_byte : ℕ → ℕ
shown_byte byte = cond (nat_lt byte 32 || (byte == 127)) 63 byte

-- a name as it is shown
abbrev pub shown : List ℕ → List ℕ
shown name = map shown_byte name

-- the number of a line, and what is wrong there
abbrev pub line_and_text : ℕ → List ℕ → List ℕ
line_and_text line text = codes ":" ++ (decimal line ++ (codes ": " ++ (text ++ codes "\n")))

-- a file's name, a line of it, and what is wrong there
abbrev pub read_line_of : List ℕ → ℕ → List ℕ → List ℕ
read_line_of name line text = codes "cbgrid: " ++ shown name ++ line_and_text line text

-- the line that reports a fault of a job with these files
abbrev pub line_of : {A : Type 0} → List (String A) → JobFault → List ℕ
line_of names Absent = plain_line_of (codes "not in this program")
line_of names (Read which fault) = read_line_of (name_at names which) fault.line (kind_text fault.kind)
line_of names (Refused refusal) = plain_line_of (refusal_text refusal)
line_of names (Ranks fault) = plain_line_of (ranks_fault_text fault)
line_of names Memory = plain_line_of (codes "out of memory")
line_of names Output = plain_line_of (codes "can't write")

-- the line for a file that can't be read
abbrev pub unreadable_line_of : List ℕ → List ℕ
unreadable_line_of name = codes "cbgrid: " ++ shown name ++ codes ": can't be read\n"
