-- Letters as a head and lists.
use Rattle.std.specs.Prelude.{◌≡◌, ℕ, ◌≤◌, List}
use Rattle.cb_semirings.specs.Arithmetic.{Arithmetic}
use Rattle.cb_matrix.specs.declared.TheConstants.{LIMIT}
use Rattle.cb_matrix.specs.Sparse.{Sparse, IsMatrix}
use Rattle.cb_letters.specs.declared.Body.{Body}
use Rattle.cb_letters.specs.declared.Body.TheVariants as body_is
use Rattle.cb_letters.specs.declared.Letter.{Letter}
use Rattle.cb_lists.specs.declared.lists.Columns.{Columns}
use Rattle.cb_lists.specs.Lists.{matrix_of, AreLists, AreStarts, HasLists}
use Rattle.cb_messages.specs.declared.heads.Head.{Head}

module _ {P : Type 0} where
  abbrev pub kind_of : Body P → ℕ
  kind_of (body_is.Sheet p) = 0
  kind_of (body_is.Lost origin) = 1
  kind_of body_is.Close = 2

  abbrev pub origin_of : Body P → ℕ
  origin_of (body_is.Sheet p) = 0
  origin_of (body_is.Lost origin) = origin
  origin_of body_is.Close = 0

  -- the head of a letter
  abbrev pub head_of : Letter P → Head
  head_of x = record { number = x.number; from = x.from; to = x.to; tag = x.tag.0; kind = kind_of x.body; origin = origin_of x.body; reserved = 0 }

-- the ranks of a head have 16 bits, and its kind is one of the three
pub record IsHead (head : Head) : Type 0 where
  pub from : head.from ≤ 65535
  pub to : head.to ≤ 65535
  pub kind : head.kind ≤ 2
  pub origin : head.origin ≤ 65535
  pub reserved : head.reserved ≡ 0

-- some letter has this head, and the lists of its sheet, if it has one, are those of a matrix
pub record IsMessage (s : Arithmetic) (head : Head) (lists : Columns) : Type 0 where
  pub head_is : IsHead head
  pub lists_are : head.kind ≡ 0 → AreLists s lists

-- what the letter of a head and lists carries
abbrev pub IsBodyOf : Arithmetic → Body Sparse → Head → Columns → Type 0
IsBodyOf s (body_is.Sheet m) head lists = (head.kind ≡ 0) × AreLists s lists × (m ≡ matrix_of s lists)
IsBodyOf s (body_is.Lost origin) head lists = (head.kind ≡ 1) × (origin ≡ head.origin)
IsBodyOf s body_is.Close head lists = head.kind ≡ 2

-- the letter of a head and lists
pub record IsLetterOf (s : Arithmetic) (x : Letter Sparse) (head : Head) (lists : Columns) : Type 0 where
  pub number : x.number ≡ head.number
  pub from : x.from ≡ head.from
  pub to : x.to ≡ head.to
  pub tag : x.tag.0 ≡ head.tag
  pub body : IsBodyOf s x.body head lists

-- the lists of a letter's sheet, if it has one
abbrev pub AreListsOf : Arithmetic → Body Sparse → Columns → Type 0
AreListsOf s (body_is.Sheet m) lists = IsMatrix s m × HasLists m lists
AreListsOf s (body_is.Lost origin) lists = Unit {0}
AreListsOf s body_is.Close lists = Unit {0}

-- the starts of the columns of a letter's sheet, if it has one
abbrev pub HasStarts : Body Sparse → List ℕ → Type 0
HasStarts (body_is.Sheet m) starts = AreStarts m.entries starts
HasStarts (body_is.Lost origin) starts = Unit {0}
HasStarts body_is.Close starts = Unit {0}

-- the sheet of a letter, if it has one, is no larger than a matrix can be
abbrev pub SheetFits : Body Sparse → Type 0
SheetFits (body_is.Sheet m) = (m.shape.rows ≤ LIMIT) × (m.shape.cols ≤ LIMIT)
SheetFits (body_is.Lost origin) = Unit {0}
SheetFits body_is.Close = Unit {0}

-- the numbers of a letter have the sizes that their types give them
pub record HasSizes (x : Letter Sparse) : Type 0 where
  pub from : x.from ≤ 65535
  pub to : x.to ≤ 65535
  pub origin : origin_of x.body ≤ 65535
  pub sheet : SheetFits x.body

-- a letter is sent as this head and these lists
pub record IsSentAs (s : Arithmetic) (x : Letter Sparse) (head : Head) (lists : Columns) : Type 0 where
  pub head_is : head ≡ head_of x
  pub lists_are : AreListsOf s x.body lists
