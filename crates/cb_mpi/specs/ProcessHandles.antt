-- A process as C holds it: what is known of the memory at a pointer.
use Rattle.std.specs.Prelude.{Option, Some, None}
use mathlib.Core.List.{[], ◌∷◌}
use base.Fml.{Fml, ftrue}
use mir.Syntax.{static}
use denote.RawPtr.{Ptr, ptr_val}
use denote.Ref.{Bor, ShrRef, MutBor, MutRef}
use Rattle.cb_rank_process.specs.declared.any_process.AnyProcess.{AnyProcess}
use Rattle.cb_rank_process.specs.contracts.any_process.AnyProcess.{the_row}

-- the pointer owns a process, and nobody else has it; or it is a place for one
abbrev pub owned_at : Ptr → Option (MutBor AnyProcess) → Fml
owned_at p None = ftrue
owned_at p (Some k) = (MutRef static [] the_row).own_val k (ptr_val p ∷ [])

-- a process is at the pointer, and nobody changes it
abbrev pub lent_at : Ptr → Bor AnyProcess → Fml
lent_at p k = (ShrRef static [] the_row).own_val k (ptr_val p ∷ [])
