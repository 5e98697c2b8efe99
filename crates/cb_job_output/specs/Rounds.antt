-- Shares of a text, and sheets that they are written on.
use Rattle.std.specs.Prelude.{ℕ, ◌≡◌, ◌<◌, List, length, flat_map, get_or, All}
use Rattle.cb_job_output.specs.declared.stacks.Numbered.{Numbered}

-- shares, one after the other
abbrev pub joined : List (List ℕ) → List ℕ
joined shares = flat_map (λ share. share) shares

-- What is written on a sheet is the share with its number.
pub record IsOf (shares : List (List ℕ)) (written : Numbered) : Type 0 where
  pub share : written.number < length shares
  pub whole : (d : List ℕ) → written.sheet ≡ get_or shares written.number d

-- it is on each of these sheets
abbrev pub AreOf : List (List ℕ) → List Numbered → Type 0
AreOf shares sheets = All (IsOf shares) sheets

-- and on each sheet of one stack and of others
pub record AreAllOf (shares : List (List ℕ)) (own : List Numbered) (others : List (List Numbered)) : Type 0 where
  pub on_own : AreOf shares own
  pub on_others : All (AreOf shares) others
