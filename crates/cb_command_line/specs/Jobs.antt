-- What a job asks for.
use Rattle.std.specs.Prelude.{◌≡◌, ◌⊎◌, ℕ, ◌+◌, Bool, true, false}
use Rattle.clap.specs.declared.error.kind.ErrorKind.{ErrorKind}
use Rattle.clap.specs.declared.error.kind.ErrorKind.TheVariants.{DisplayHelp, DisplayVersion}
use Rattle.cb_semirings.specs.declared.names.SemiringName.{SemiringName}
use Rattle.cb_semirings.specs.declared.names.SemiringName.TheVariants.{PlusTimes, MinPlus, OrAnd, MaxMin}
use Rattle.cb_operations.specs.Graphs as graphs
use Rattle.cb_operations.specs.Computations.{operand_count_of}
use Rattle.cb_command_line.specs.declared.lists.Lists.{Lists}
use Rattle.cb_command_line.specs.declared.lists.Lists.TheVariants.{Rows, Columns, Both}
use Rattle.cb_command_line.specs.declared.tasks.Task.{Task}
use Rattle.cb_command_line.specs.declared.tasks.Task.TheVariants.{Compute, Extract, Graph}

-- whether a semiring is one in the sense of algebra, whose product distributes over its sum
abbrev pub is_distributive : SemiringName → Bool
is_distributive PlusTimes = true
is_distributive MinPlus = true
is_distributive OrAnd = true
is_distributive MaxMin = true
is_distributive _ = false

-- how many files have a list
abbrev pub list_count_of : Lists → ℕ
list_count_of Rows = 1
list_count_of Columns = 1
list_count_of Both = 2

-- how many files a task reads
abbrev pub file_count_of : Task → ℕ
file_count_of (Compute computation semiring) = operand_count_of computation
file_count_of (Extract lists semiring) = 1 + list_count_of lists
file_count_of (Graph task) = graphs.operand_count_of task

-- the command line asks for help, or for the version
abbrev pub AsksForText : ErrorKind → Type 0
AsksForText kind = (kind ≡ DisplayHelp) ⊎ (kind ≡ DisplayVersion)
