-- Files in parts.
use Rattle.std.specs.Prelude.{ℕ, ◌≡◌, ◌<◌, ◌≤◌, ◌+◌, List, [], ◌∷◌, ◌++◌, length, flat_map, Bool, true, false}
use Rattle.cb_job_files.specs.StoredFiles.{AreRead}
use Rattle.cb_job_files.specs.declared.loading.Part.{Part}

-- so many bytes of one read, from this place on, were appended
abbrev pub IsReadOn : (ℕ → List ℕ → Type 0) → ℕ → ℕ → List ℕ → List ℕ → ℕ → Type 0
IsReadOn gives place end old new count = (piece : List ℕ) × gives place piece × (new ≡ old ++ piece) × (length piece ≡ count) × (length new ≤ end)

-- whether reads from a place on came to the end of a file before they had given so many bytes
abbrev pub IsReadTo : (ℕ → List ℕ → Type 0) → ℕ → ℕ → ℕ → Bool → Type 0
IsReadTo gives start most count true = (count < most) × gives (start + count) []
IsReadTo gives start most count false = count ≡ most

-- whether a read at a place gives no byte
abbrev pub HasEnded : (ℕ → List ℕ → Type 0) → ℕ → Bool → Type 0
HasEnded gives place true = gives place []
HasEnded gives place false = (bytes : List ℕ) × gives place bytes × (0 < length bytes)

-- a part that is loaded has what reads gave from its start on
abbrev pub IsPart : (ℕ → List ℕ → Type 0) → Part → Type 0
IsPart gives part = part.is_loaded ≡ true → AreRead gives part.start part.bytes.items

-- parts are loaded, each begins where the one before it ends, and the last ends at this place
abbrev pub AreInOrder : ℕ → List Part → ℕ → Type 0
AreInOrder place [] end = place ≡ end
AreInOrder place (part ∷ parts) end = (part.is_loaded ≡ true) × (part.start ≡ place) × AreInOrder (place + length part.bytes.items) parts end

-- the bytes of parts
abbrev pub bytes_of : List Part → List ℕ
bytes_of parts = flat_map (λ p. p.bytes.items) parts
