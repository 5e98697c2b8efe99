-- What ranks cut, exchange in rounds, and add up.
use Rattle.std.specs.Prelude.{ℕ, ◌+◌, ◌-◌, ◌%◌, List, [], ◌∷◌, ◌++◌, length, map, flat_map}
use Rattle.std.specs.List.{range_with_len}
use Rattle.cb_matrix.specs.Sparse.{Extent}
use Rattle.cb_letters.specs.declared.Tag.{Tag}
use Rattle.cb_plan.specs.declared.acts.Op.{Op}
use Rattle.cb_plan.specs.declared.acts.Op.TheVariants as op_is
use Rattle.cb_plan.specs.declared.acts.Act.{Act}
use Rattle.cb_grid.specs.Parts.{row_group, column_group, part}
use Rattle.cb_plan_parts.specs.Collectives.{member, sent}

-- part k of the columns of a block of this shape, which is in slot 0, goes to slot 1 + k
abbrev pub column_cut : ℕ → Extent → ℕ → Op
column_cut q block k = op_is.Cut 0 (0, block.rows) (part q block.cols k) (1 + k)

-- and so each part
abbrev pub column_cuts : ℕ → Extent → List Op
column_cuts q block = map (column_cut q block) (range_with_len 0 q)

-- A rank cuts what is in slot 0, a block of this shape, by columns, and doesn't keep it.
abbrev pub given_away : ℕ → Extent → List Op
given_away q block = column_cuts q block ++ op_is.Clear 0 ∷ []

-- what a rank has sent, in its slots from 1 on, isn't kept
abbrev pub sent_away : ℕ → List Op
sent_away q = map (λ k. op_is.Clear (1 + k)) (range_with_len 0 q)

-- the place that is so far ahead of place s among n, cyclically
abbrev pub ahead : ℕ → ℕ → ℕ → ℕ
ahead n distance s = (s + distance) % n

-- slot slot + t of member s goes to slot into + s of the member t that is so far ahead
abbrev pub sent_ahead : List ℕ → Tag → ℕ → ℕ → ℕ → ℕ → Act
sent_ahead members tag slot into distance s =
    let t = ahead (length members) distance s in sent (member members s) (member members t) tag (slot + t) (into + s)

-- one round: each member sends once, and receives once
abbrev pub round : List ℕ → Tag → ℕ → ℕ → ℕ → List Act
round members tag slot into distance = map (sent_ahead members tag slot into distance) (range_with_len 0 (length members))

-- all rounds: slot slot + t of member s goes to slot into + s of member t, for each s and each t
abbrev pub rounds : List ℕ → Tag → ℕ → ℕ → List Act
rounds members tag slot into = flat_map (round members tag slot into) (range_with_len 0 (length members))

-- the ranks of row i of a grid exchange what is in their slots from 1 on
abbrev pub row_exchange : ℕ → Tag → ℕ → List Act
row_exchange q tag i = rounds (row_group q i) tag 1 (1 + q)

-- those of each row: slot 1 + k of rank (i, j) goes to slot 1 + q + j of rank (i, k)
abbrev pub row_exchanges : ℕ → Tag → List Act
row_exchanges q tag = flat_map (row_exchange q tag) (range_with_len 0 q)

-- the same of column j
abbrev pub column_exchange : ℕ → Tag → ℕ → List Act
column_exchange q tag j = rounds (column_group q j) tag 1 (1 + q)

-- those of each column: slot 1 + k of rank (i, j) goes to slot 1 + q + i of rank (k, j)
abbrev pub column_exchanges : ℕ → Tag → List Act
column_exchanges q tag = flat_map (column_exchange q tag) (range_with_len 0 q)

-- the block in a later slot is added to the one in the first
abbrev pub add_to : ℕ → ℕ → Op
add_to first k = op_is.Add first (first + 1 + k) first

-- the blocks in so many slots are added up in the first of them
abbrev pub sums : ℕ → ℕ → List Op
sums first count = map (add_to first) (range_with_len 0 (count - 1))
