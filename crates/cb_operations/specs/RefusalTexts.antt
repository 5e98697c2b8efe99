-- The reasons of refusals, in words.
use Rattle.std.specs.Prelude.{ℕ, List, codes}
use Rattle.cb_operations.specs.declared.refusals.Refusal.{Refusal}
use Rattle.cb_operations.specs.declared.refusals.Refusal.TheVariants.{Shapes, NoValue, NotColumn, NotSquare, Source, TooLarge, Place, NoRow, NoColumn}

abbrev pub refusal_text : Refusal → List ℕ
refusal_text Shapes = codes "shapes don't agree"
refusal_text NoValue = codes "no value of the semiring"
refusal_text NotColumn = codes "matrix not a column"
refusal_text NotSquare = codes "matrix not square"
refusal_text Source = codes "no such source"
refusal_text TooLarge = codes "product too large"
refusal_text Place = codes "part ends beyond the matrix"
refusal_text NoRow = codes "no such row"
refusal_text NoColumn = codes "no such column"
