-- Faults of entries that don't form a block.
use Rattle.std.specs.Prelude.{ℕ, ◌+◌, ◌==◌, ◌&&◌, ◌||◌, nat_lt, not, Bool, false, cond, Option, Some, None, List, [], ◌∷◌}
use Rattle.cb_semirings.specs.Arithmetic.{Arithmetic}
use Rattle.cb_matrix.specs.declared.Entry.{Entry}
use Rattle.cb_matrix.specs.Sparse.{Extent, is_outside}
use Rattle.cb_dcsc.specs.declared.block_faults.BlockFault.{BlockFault}
use Rattle.cb_dcsc.specs.declared.block_faults.BlockFault.TheVariants.{Place, Order, Zero}

-- whether the second entry comes after the first, by column and then by row
abbrev pub comes_after : Entry → Entry → Bool
comes_after d e = nat_lt d.column e.column || ((d.column == e.column) && nat_lt d.row e.row)

-- whether an entry does not come after the one before it
abbrev pub is_late : Option Entry → Entry → Bool
is_late None e = false
is_late (Some d) e = not (comes_after d e)

-- the fault of the entry with index n, after the one before it: outside the shape, or else not after it, or else zero
abbrev pub fault_of : Arithmetic → Extent → ℕ → Option Entry → Entry → Option BlockFault
fault_of s shape n before e =
    cond (is_outside shape e) (Some (Place n))
    (cond (is_late before e) (Some (Order n))
    (cond (e.value == s.zero) (Some (Zero n)) None))

-- the first fault, if any, or else the second
abbrev pub or_else : Option BlockFault → Option BlockFault → Option BlockFault
or_else None rest = rest
or_else (Some fault) rest = Some fault

-- the fault of the first faulty entry, with n entries before these
unfoldable pub first_fault_from : Arithmetic → Extent → ℕ → Option Entry → List Entry → Option BlockFault
first_fault_from s shape n before [] = None
first_fault_from s shape n before (e ∷ es) = or_else (fault_of s shape n before e) (first_fault_from s shape (n + 1) (Some e) es)

-- the fault of the first faulty entry
abbrev pub first_fault : Arithmetic → Extent → List Entry → Option BlockFault
first_fault s shape es = first_fault_from s shape 0 None es
