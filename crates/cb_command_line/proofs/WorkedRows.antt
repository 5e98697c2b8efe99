-- What some command lines ask for, computed from the table.
use Rattle.std.proofs.Common.{◌≡◌, refl, codes, List, [], ◌∷◌, map, option_map, Option, Some}
use Rattle.clap.specs.Walk.{Row, Text}
use Rattle.clap.specs.Simple.{subcommand_of}
use Rattle.clap.proofs.OnLiterals.{clap_on_literals}
use Rattle.cb_semirings.specs.declared.names.SemiringName.TheVariants.{MinPlus, PlusTimes}
use Rattle.cb_operations.specs.declared.operations.Operation.TheVariants.{MultiplyVector, ColumnSums}
use Rattle.cb_command_line.specs.declared.jobs.EngineName.TheVariants.{Plain, Ranks}
use Rattle.cb_operations.specs.declared.regions.Region.TheVariants.{Lower}
use Rattle.cb_operations.specs.declared.selections.Selection.TheVariants.{Select}
use Rattle.cb_operations.specs.declared.graphs.GraphTask.TheVariants.{Levels}
use Rattle.cb_command_line.specs.Asked.{engine_in, entry, graph_tasks, kept_in, operations, semiring_in}
use Rattle.cb_command_line.specs.Lines.{joined}
use Rattle.cb_command_line.specs.Options.{word}
use Rattle.cb_command_line.specs.Table.{all_shapes, table}

abbrev found : {X : Type 0} → (List Row → X) → List Text → Option (Text × X)
found f words = option_map (λ c. (c.0, f c.1)) (subcommand_of table (joined words))

abbrev files : List Text → List Row → List (Option Text)
files names rows = map (λ name. word name rows) names

spmv_words : List Text
spmv_words = codes "cbgrid" ∷ codes "spmv" ∷ codes "A.mtx" ∷ codes "x.mtx" ∷ codes "--semiring" ∷ codes "min-plus" ∷ []

spmv_semiring : found semiring_in spmv_words ≡ Some (codes "spmv", Some MinPlus)
unfolding clap_on_literals all_shapes joined spmv_words
spmv_semiring = refl

spmv_files : found (files (codes "A" ∷ codes "x" ∷ [])) spmv_words ≡ Some (codes "spmv", Some (codes "A.mtx") ∷ Some (codes "x.mtx") ∷ [])
unfolding clap_on_literals all_shapes joined spmv_words
spmv_files = refl

spmv_task : found (λ rows. entry (codes "spmv") (operations rows)) spmv_words ≡ Some (codes "spmv", Some MultiplyVector)
unfolding clap_on_literals all_shapes joined spmv_words
spmv_task = refl

-- a negative number is a word of its own
select_words : List Text
select_words = codes "cbgrid" ∷ codes "select" ∷ codes "a.mtx" ∷ codes "--region" ∷ codes "lower" ∷ codes "--diagonal" ∷ codes "-1" ∷ []

select_task : found kept_in select_words ≡ Some (codes "select", Some (Select (Lower (record { row = 1; column = 0 }))))
unfolding clap_on_literals all_shapes joined select_words
select_task = refl

-- defaults, and a number that the words count from 1
bfs_words : List Text
bfs_words = codes "cbgrid" ∷ codes "bfs" ∷ codes "--source" ∷ codes "1" ∷ codes "a.mtx" ∷ []

bfs_task : found (λ rows. entry (codes "bfs") (graph_tasks rows)) bfs_words ≡ Some (codes "bfs", Some (Levels 0))
unfolding clap_on_literals all_shapes joined bfs_words
bfs_task = refl

bfs_engine : found engine_in bfs_words ≡ Some (codes "bfs", Plain)
unfolding clap_on_literals all_shapes joined bfs_words
bfs_engine = refl

reduce_words : List Text
reduce_words = codes "cbgrid" ∷ codes "reduce" ∷ codes "--by=columns" ∷ codes "a.mtx" ∷ codes "--grid" ∷ codes "3" ∷ []

reduce_task : found (λ rows. entry (codes "reduce") (operations rows)) reduce_words ≡ Some (codes "reduce", Some ColumnSums)
unfolding clap_on_literals all_shapes joined reduce_words
reduce_task = refl

reduce_engine : found engine_in reduce_words ≡ Some (codes "reduce", Ranks 2)
unfolding clap_on_literals all_shapes joined reduce_words
reduce_engine = refl

reduce_semiring : found semiring_in reduce_words ≡ Some (codes "reduce", Some PlusTimes)
unfolding clap_on_literals all_shapes joined reduce_words
reduce_semiring = refl
