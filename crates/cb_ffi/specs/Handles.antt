-- A kept matrix as C holds it: what is known of the memory at a pointer.
use Rattle.std.specs.Prelude.{Option, Some, None}
use mathlib.Core.List.{[], ◌∷◌}
use base.Fml.{Fml, ftrue}
use mir.Syntax.{static}
use denote.RawPtr.{Ptr, ptr_val}
use denote.Ref.{Bor, ShrRef, MutBor, MutRef}
use Rattle.cb_kept.specs.declared.kept.Kept.{Kept}
use Rattle.cb_kept.specs.contracts.kept_matrices.KeptMatrix.{the_row}

-- the pointer owns a kept matrix, and nobody else has it; or it is a place for one
abbrev pub owned_at : Ptr → Option (MutBor Kept) → Fml
owned_at p None = ftrue
owned_at p (Some k) = (MutRef static [] the_row).own_val k (ptr_val p ∷ [])

-- a kept matrix is at the pointer, and nobody changes it
abbrev pub lent_at : Ptr → Bor Kept → Fml
lent_at p k = (ShrRef static [] the_row).own_val k (ptr_val p ∷ [])
