-- How a process searches in a graph: its blocks of the numbers of the vertices, and of those that fell in the last round.
use Rattle.std.specs.Prelude.{◌≡◌, ◌≢◌, ◌⊎◌, ◌<◌, ◌≤◌, ℕ, ◌+◌, ◌*◌, ◌/◌, ◌%◌, List, [], length, slice_set, flat_map, Option, Some, None}
use Rattle.std.specs.List.{range_with_len}
use Rattle.cb_semirings.specs.Arithmetic.{Arithmetic}
use Rattle.cb_semirings.specs.Tables.{min_plus, or_and}
use Rattle.cb_matrix.specs.Sparse.{Extent, Sparse, IsMatrix}
use Rattle.cb_matrix.specs.Operations.{placed, sum_of}
use Rattle.cb_grid.specs.Parts.{part_start}
use Rattle.cb_grid.specs.Blocks.{block_of}
use Rattle.cb_market_pages.specs.Text.{vertex_text_of}
use Rattle.cb_plan_slots.specs.Slots.{block_of_rank}
use Rattle.cb_searches.specs.Walks.{AreDistances}
use Rattle.cb_search_columns.specs.SearchColumns.{AreNextRound, AreSearch, DistancesAreLevels, lower_values, reached_from, source_column}
use Rattle.cb_rank_process.specs.declared.faults.ProcessFault.{ProcessFault}
use Rattle.cb_rank_process.specs.declared.faults.ProcessFault.TheVariants as fault_is
use Rattle.cb_rank_process.specs.Processes.{KeptView, ProcessView, register_at, with_registers}
use Rattle.cb_rank_process.specs.Begun.{HasPart}

-- a register gets a matrix
abbrev pub with_register : ProcessView → ℕ → KeptView → ProcessView
with_register x register kept = with_registers x (slice_set x.registers register (Some kept))

-- the registers have this number
abbrev pub IsRegister : ProcessView → ℕ → Type 0
IsRegister x register = register < length x.registers

-- a rank's block of a matrix, with the shape of the matrix
abbrev pub kept_of : Arithmetic → ProcessView → Sparse → KeptView
kept_of s x m = record { shape = m.shape; block = block_of_rank s x.side m x.me }

-- a register has this process's block of a matrix
abbrev pub HasBlockOf : Arithmetic → ProcessView → ℕ → Sparse → Type 0
HasBlockOf s x register m = register_at x register ≡ Some (kept_of s x m)

-- ---- copies
-- a register gets what another one has, which keeps it
pub record Copies (from to : ℕ) (x y : ProcessView) : Type 0 where
  pub kept : KeptView
  pub was : register_at x from ≡ Some kept
  pub inside : IsRegister x to
  pub after : y ≡ with_register x to kept

-- why nothing is copied: there is no such matrix or no such register, or memory was refused
abbrev pub IsCopyFault : ℕ → ℕ → ProcessView → ProcessFault → Type 0
IsCopyFault from to x fault_is.Absent = (register_at x from ≡ None) ⊎ (length x.registers ≤ to)
IsCopyFault from to x fault_is.Memory = Unit {0}
IsCopyFault from to x fault = ⊥

-- why a process has no part of a matrix: the grid has no such rank, or memory was refused
abbrev pub IsPartFault : ProcessView → ProcessFault → Type 0
IsPartFault x fault_is.Absent = x.side * x.side ≤ x.me
IsPartFault x fault_is.Memory = Unit {0}
IsPartFault x fault = ⊥

-- ---- a search
-- A process begins a search in the graph of the square matrix in a register: two registers get its block of the column in which
-- only the source has a number.
pub record BeginsSearch (graph source known fell : ℕ) (x y : ProcessView) : Type 0 where
  pub kept : KeptView
  pub was : register_at x graph ≡ Some kept
  pub square : kept.shape.rows ≡ kept.shape.cols
  pub vertex : source < kept.shape.rows
  pub inside : IsRegister x known × IsRegister x fell
  pub after : y ≡ with_register (with_register x known (kept_of min_plus x (source_column kept.shape.rows source))) fell (kept_of min_plus x (source_column kept.shape.rows source))
  pub search : (a : Sparse) → IsMatrix min_plus a → a.shape ≡ kept.shape → AreSearch a source 0 (source_column kept.shape.rows source) (source_column kept.shape.rows source)

-- a register has a matrix of which this holds
abbrev pub HasMatrixThat : (Extent → Type 0) → ProcessView → ℕ → Type 0
HasMatrixThat P x register = (kept : KeptView) × (register_at x register ≡ Some kept) × P kept.shape

-- why no search is begun: there is no graph, no such register, no such rank, or no such vertex; the matrix isn't square; or memory
-- was refused
abbrev pub IsSearchFault : ℕ → ℕ → ℕ → ℕ → ProcessView → ProcessFault → Type 0
IsSearchFault graph source known fell x fault_is.Absent =
    (register_at x graph ≡ None) ⊎ ((length x.registers ≤ known) ⊎ ((length x.registers ≤ fell) ⊎ ((x.side * x.side ≤ x.me) ⊎ HasMatrixThat (λ d. d.rows ≤ source) x graph)))
IsSearchFault graph source known fell x fault_is.Shapes = HasMatrixThat (λ d. d.rows ≢ d.cols) x graph
IsSearchFault graph source known fell x fault_is.Memory = Unit {0}
IsSearchFault graph source known fell x fault = ⊥

-- the sum of the blocks in two registers, and the values of the second that are below those of the first
pub record IsSettled (known reached : ℕ) (x : ProcessView) (sum lower : KeptView) : Type 0 where
  pub numbers : KeptView
  pub values : KeptView
  pub were_numbers : register_at x known ≡ Some numbers
  pub were_values : register_at x reached ≡ Some values
  pub sum_is : sum ≡ record { shape = numbers.shape; block = sum_of min_plus numbers.block values.block }
  pub lower_is : lower ≡ record { shape = values.shape; block = lower_values numbers.block values.block }

-- A process takes over the lower values of what was reached: the register of the numbers gets the sum, and the other one the
-- reached values below the numbers before.
pub record Settles (known reached : ℕ) (x y : ProcessView) : Type 0 where
  pub sum : KeptView
  pub lower : KeptView
  pub settled : IsSettled known reached x sum lower
  pub after : y ≡ with_register (with_register x known sum) reached lower

-- no rank has an entry of a matrix
abbrev pub HaveNone : Arithmetic → ℕ → Sparse → Type 0
HaveNone s q m = (r : ℕ) → r < q * q → (block_of_rank s q m r).entries ≡ []

-- after one more round: the two registers have this process's blocks of its columns, and if no rank has an entry of what fell, the
-- numbers are the distances
pub record HasNextRound (a : Sparse) (source k : ℕ) (numbers values : Sparse) (known fell : ℕ) (y : ProcessView) : Type 0 where
  pub search : AreNextRound a source k numbers values
  pub has_numbers : HasBlockOf min_plus y known (sum_of min_plus numbers values)
  pub has_fallen : HasBlockOf min_plus y fell (lower_values numbers values)
  pub ended : HaveNone min_plus y.side (lower_values numbers values) → AreDistances a source (sum_of min_plus numbers values)

-- Whatever search it is of whose numbers one register has this process's block, and of what its next round reaches the other has
-- it: the search has made that round.
abbrev pub MakesRound : ℕ → ℕ → ProcessView → ProcessView → Type 0
MakesRound known reached x y =
    (a : Sparse) (source k : ℕ) (numbers fallen : Sparse) → AreSearch a source k numbers fallen → known ≢ reached
    → x.me < x.side * x.side → HasBlockOf min_plus x known numbers → HasBlockOf min_plus x reached (reached_from a fallen)
    → HasNextRound a source k numbers (reached_from a fallen) known reached y

-- why no lower values are taken over: a register has no matrix; the shapes differ; or memory was refused
abbrev pub IsSettleFault : ℕ → ℕ → ProcessView → ProcessFault → Type 0
IsSettleFault known reached x fault_is.Absent = (register_at x known ≡ None) ⊎ (register_at x reached ≡ None)
IsSettleFault known reached x fault_is.Shapes =
    (a b : KeptView) → register_at x known ≡ Some a → register_at x reached ≡ Some b → a.block.shape ≡ b.block.shape → ⊥
IsSettleFault known reached x fault_is.Memory = Unit {0}
IsSettleFault known reached x fault = ⊥

-- ---- levels
-- A process over min-plus, which was z, gets what another one has in a register.
pub record Weighs (register : ℕ) (x z y : ProcessView) : Type 0 where
  pub kept : KeptView
  pub was : register_at x register ≡ Some kept
  pub inside : IsRegister z register
  pub after : y ≡ with_register z register kept

-- Whatever square matrix of bits it is whose block this rank's other process had: it gets the block of the same matrix, of weights,
-- in which distances are levels.
abbrev pub WeighsBits : ℕ → ProcessView → ProcessView → ProcessView → Type 0
WeighsBits register x z y =
    (a : Sparse) → IsMatrix or_and a → a.shape.rows ≡ a.shape.cols → z.side ≡ x.side → z.me ≡ x.me → HasBlockOf or_and x register a
    → IsMatrix min_plus a × HasBlockOf min_plus y register a × DistancesAreLevels a

-- why a matrix isn't taken as one of weights: there is none, or no such register; or memory was refused
abbrev pub IsWeighFault : ℕ → ProcessView → ProcessView → ProcessFault → Type 0
IsWeighFault register x z fault_is.Absent = (register_at x register ≡ None) ⊎ (length z.registers ≤ register)
IsWeighFault register x z fault_is.Memory = Unit {0}
IsWeighFault register x z fault = ⊥

-- ---- lines
-- where the block of a rank begins in a matrix of this shape
abbrev pub corner_of : ℕ → Extent → ℕ → ℕ × ℕ
corner_of q shape r = (part_start q shape.rows (r / q), part_start q shape.cols (r % q))

-- the lines of the vertices of a rank's block
abbrev pub vertex_part : Arithmetic → ℕ → Sparse → ℕ → List ℕ
vertex_part s q m r = vertex_text_of (placed s m.shape (corner_of q m.shape r) (block_of_rank s q m r))

-- The lines of a column: the ranks of the first column of the grid have them in order, and the others have none.
pub record AreVertexParts (s : Arithmetic) (q : ℕ) (m : Sparse) : Type 0 where
  pub first : flat_map (λ i. vertex_part s q m (i * q)) (range_with_len 0 q) ≡ vertex_text_of m
  pub others : (r : ℕ) → r % q ≢ 0 → vertex_part s q m r ≡ []

-- a process writes the lines of the entries that it has of the column in a register: the number of the vertex in the whole column,
-- counted from 1, and its value
pub record WritesVertices (s : Arithmetic) (register : ℕ) (x : ProcessView) (text : List ℕ) : Type 0 where
  pub kept : KeptView
  pub was : register_at x register ≡ Some kept
  pub lines : text ≡ vertex_text_of (placed s kept.shape (corner_of x.side kept.shape x.me) kept.block)

-- whatever column it is whose block the register has, these are this process's lines of it
abbrev pub WritesPart : Arithmetic → ℕ → ProcessView → List ℕ → Type 0
WritesPart s register x text =
    (m : Sparse) → IsMatrix s m → m.shape.cols ≡ 1 → 0 < x.side → HasBlockOf s x register m
    → (text ≡ vertex_part s x.side m x.me) × AreVertexParts s x.side m

-- why no lines are written: the register has no matrix, or no block of this rank's part of it; or memory was refused
abbrev pub IsVertexFault : ℕ → ProcessView → ProcessFault → Type 0
IsVertexFault register x fault_is.Absent = x.me < x.side * x.side → HasPart x.side x.me (register_at x register) → ⊥
IsVertexFault register x fault_is.Memory = Unit {0}
IsVertexFault register x fault = ⊥
