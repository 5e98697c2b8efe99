-- Room for as many elements as a loop appends.
use Rattle.std.specs.Prelude.{◌≡◌, ℕ, ◌≤◌, [], vec_capacity}
use Rattle.std.specs.declared.vec.Vec.{Vec}
use Rattle.std.specs.declared.alloc.Global.{Global}

-- the list is empty, and has room for this many
abbrev pub HasRoomFor : {X : Type 0} → ℕ → Vec X Global → Type 0
HasRoomFor n v = (v.items ≡ []) × (n ≤ vec_capacity v)
