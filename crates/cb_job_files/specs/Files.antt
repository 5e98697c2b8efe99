-- The texts that files hold, and why they can't be loaded.
use Rattle.std.specs.Prelude.{ℕ, ◌≡◌, ◌<◌, List, [], length, String, string_bytes, unwrap_or, option_map, slice_get}
use Rattle.cb_job_ends.specs.Texts.{text_at}
use Rattle.cb_job_files.specs.declared.files.LoadFault.{LoadFault}
use Rattle.cb_job_files.specs.declared.files.LoadFault.TheVariants.{Unreadable, Memory}

-- the name at a position, or an empty one
abbrev pub name_at : {A : Type 0} → List (String A) → ℕ → List ℕ
name_at names i = unwrap_or (option_map string_bytes (slice_get names i)) []

-- each text before a position is what the file with its name holds
abbrev pub HoldsBelow : {A : Type 0} → (List ℕ → List ℕ → Type 0) → List (String A) → List (List ℕ) → ℕ → Type 0
HoldsBelow holds names texts n = (i : ℕ) → i < n → holds (name_at names i) (text_at texts i)

-- one text for each name: what the file with that name holds
abbrev pub AreTexts : {A : Type 0} → (List ℕ → List ℕ → Type 0) → List (String A) → List (List ℕ) → Type 0
AreTexts holds names texts = (length texts ≡ length names) × HoldsBelow holds names texts (length names)

-- the file with a name holds some text
abbrev pub IsHeld : (List ℕ → List ℕ → Type 0) → List ℕ → Type 0
IsHeld holds name = (text : List ℕ) × holds name text

-- why the texts can't all be loaded: a file is refused, the first in the order of the names; or memory is
abbrev pub IsUnloaded : {A : Type 0} → (List ℕ → List ℕ → Type 0) → (List ℕ → Type 0) → List (String A) → LoadFault → Type 0
IsUnloaded holds refuses names (Unreadable which) =
    (which < length names) × ((i : ℕ) → i < which → IsHeld holds (name_at names i)) × refuses (name_at names which)
IsUnloaded holds refuses names Memory = Unit {0}
