-- What reads of a file give, and which text is all of it.
use Rattle.std.specs.Prelude.{ℕ, ◌≡◌, ◌<◌, ◌+◌, ◌⊎◌, List, [], ◌∷◌, ◌++◌, length, flat_map, Bool, true, false, Option, Some, IfSome, Result, IfOk}

-- reads give these pieces, from this place on, each from where the one before ended
abbrev pub GivePieces : (ℕ → List ℕ → Type 0) → ℕ → List (List ℕ) → Type 0
GivePieces gives place [] = Unit {0}
GivePieces gives place (piece ∷ pieces) = gives place piece × GivePieces gives (place + length piece) pieces

-- pieces, one after the other
abbrev pub pieced : List (List ℕ) → List ℕ
pieced pieces = flat_map (λ (piece : List ℕ). piece) pieces

-- reads give these bytes from this place on, each from where the one before ended
abbrev pub AreRead : (ℕ → List ℕ → Type 0) → ℕ → List ℕ → Type 0
AreRead gives place bytes = (pieces : List (List ℕ)) × (pieced pieces ≡ bytes) × GivePieces gives place pieces

-- The text is all of a file, by what reads of it may give, and by how many bytes it may say that it has: reads gave the bytes from the
-- first on, one where they end gave none, and they are as many as the file said, if it said.
pub record IsWhole (gives : ℕ → List ℕ → Type 0) (says : Option ℕ → Type 0) (text : List ℕ) : Type 0 where
  pub read : AreRead gives 0 text
  pub ends : gives (length text) []
  pub counted : (said : Option ℕ) × says said × IfSome said (λ n. length text ≡ n)

-- a read gave no byte before the place where the file said that it ends, or gave one after it
abbrev pub HasChanged : (ℕ → List ℕ → Type 0) → (Option ℕ → Type 0) → Type 0
HasChanged gives says = (said place : ℕ) × (bytes : List ℕ) × says (Some said) × gives place bytes
    × (((bytes ≡ []) × (place < said)) ⊎ ((0 < length bytes) × (said < place + length bytes)))

-- a file can't be read to its end: a read failed, or the file changed its length
abbrev pub IsUnreadable : Type 0 → (ℕ → List ℕ → Type 0) → (Option ℕ → Type 0) → Type 0
IsUnreadable fails gives says = fails ⊎ HasChanged gives says

-- a file that may be opened holds all of a text
abbrev pub HoldsWhole : {File : Type 0} → (File → Type 0) → (File → ℕ → List ℕ → Type 0) → (File → Option ℕ → Type 0) → List ℕ → Type 0
HoldsWhole {File = File} opens gives says text = (file : File) × opens file × IsWhole (gives file) (says file) text

-- no file may be opened, or one that may be can't be read to its end
abbrev pub IsRefused : {File : Type 0} → Type 0 → (File → Type 0) → (File → Type 0) → (File → ℕ → List ℕ → Type 0) → (File → Option ℕ → Type 0) → Type 0
IsRefused {File = File} lacks opens fails gives says = lacks ⊎ ((file : File) × opens file × IsUnreadable (fails file) (gives file) (says file))
