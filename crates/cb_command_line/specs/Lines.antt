-- The words of a command line, and the job that they ask for.
use Rattle.std.specs.Prelude.{◌+◌, ◌++◌, ◌&&◌, ◌||◌, ◌==◌, ℕ, Bool, List, [], ◌∷◌, Option, Some, None, Result, IfOk}
use Rattle.std.specs.Prelude.{take, drop, length, nat_le, nat_lt, codes, bytes_eq, slice_index, slice_index_or, if◌then◌else◌}
use Rattle.std.specs.List.{position}
use Rattle.clap.specs.Walk.{Row, Text}
use Rattle.clap.specs.Simple.{App, subcommand_of}
use Rattle.cb_command_line.specs.Asked.{IsJobIn}
use Rattle.cb_command_line.specs.Table.{IsOfTable}
use Rattle.cb_command_line.specs.declared.jobs.Job.{Job}
use Rattle.cb_command_line.specs.declared.jobs.UsageFault.{UsageFault}

-- a hyphen and a digit
abbrev pub is_negative : Text → Bool
is_negative word = nat_lt 1 (length word)
    && ((slice_index word 0 == 45) && (nat_le 48 (slice_index word 1) && nat_le (slice_index word 1) 57))

abbrev pub word_at : List Text → ℕ → Text
word_at words i = slice_index_or words i []

-- the first word `--diagonal`, or a word `--` before it
abbrev pub is_diagonal_or_end : Text → Bool
is_diagonal_or_end word = bytes_eq word (codes "--diagonal") || bytes_eq word (codes "--")

-- `--diagonal` and a negative number begin at this place
abbrev pub has_negative_at : List Text → ℕ → Bool
has_negative_at words i = nat_lt (i + 1) (length words)
    && (bytes_eq (word_at words i) (codes "--diagonal") && is_negative (word_at words (i + 1)))

abbrev pub negative_in : List Text → Option ℕ → Option ℕ
negative_in words None = None
negative_in words (Some i) = if has_negative_at words i then Some i else None

-- where the first `--diagonal` stands, if a negative number follows it and no `--` stands before it
abbrev pub negative_place : List Text → Option ℕ
negative_place words = negative_in words (position is_diagonal_or_end words)

abbrev pub joined_at : List Text → Option ℕ → List Text
joined_at words None = words
joined_at words (Some i) = take i words ++ (codes "--diagonal=" ++ word_at words (i + 1)) ∷ drop (i + 2) words

-- the words, where the first `--diagonal` and a negative number after it are one word
unfoldable pub joined : List Text → List Text
joined words = joined_at words (negative_place words)

-- the command that a table reads in the words, with what it finds of its options and files
unfoldable pub read_by : App → List Text → Option (Text × List Row)
read_by app words = subcommand_of app words

-- the words ask for the job, as the table of the commands has it, on so many processors
pub record IsReadAs (processors : ℕ) (words : List Text) (job : Job) : Type 0 where
  pub app : App
  pub of_table : IsOfTable app
  pub is_job : IsJobIn processors (read_by app words) job

abbrev pub IsAskedBy : ℕ → List Text → Job → Type 0
IsAskedBy processors words job = IsReadAs processors (joined words) job

-- what was asked is what a command line says, on some number of processors, or a fault
abbrev pub IsReading : (List Text → Type 0) → Result Job UsageFault → Type 0
IsReading holds asked = IfOk asked (λ job. (words : List Text) × (processors : ℕ) × holds words × IsAskedBy processors words job)
