-- A message as C holds it: what is known of the memory at a pointer.
use Rattle.std.specs.Prelude.{Option, Some, None}
use mathlib.Core.List.{[], ◌∷◌}
use base.Fml.{Fml, ftrue}
use mir.Syntax.{static}
use denote.RawPtr.{Ptr, ptr_val}
use denote.Ref.{Bor, ShrRef, MutBor, MutRef}
use Rattle.cb_rank_process.specs.declared.outgoing.Outgoing.{Outgoing}
use Rattle.cb_rank_process.specs.contracts.outgoing.Outgoing.{the_row}

-- the pointer owns a message, and nobody else has it; or it is a place for one
abbrev pub message_owned_at : Ptr → Option (MutBor Outgoing) → Fml
message_owned_at p None = ftrue
message_owned_at p (Some k) = (MutRef static [] the_row).own_val k (ptr_val p ∷ [])

-- a message is at the pointer, and nobody changes it
abbrev pub message_lent_at : Ptr → Bor Outgoing → Fml
message_lent_at p k = (ShrRef static [] the_row).own_val k (ptr_val p ∷ [])
