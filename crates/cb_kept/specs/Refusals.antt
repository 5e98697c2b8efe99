-- The faults of calls. A call looks for them in an order, and returns the first.
use Rattle.std.specs.Prelude.{◌≡◌, ◌≢◌, ℕ, ◌⊎◌, List, Option, Some, None}
use Rattle.cb_semirings.specs.Arithmetic.{Arithmetic}
use Rattle.cb_semirings.specs.declared.names.SemiringName.{SemiringName}
use Rattle.cb_semirings.specs.Names.{arithmetic_of}
use Rattle.cb_market_lines.specs.declared.ReadFault.{ReadFault}
use Rattle.cb_market_lines.specs.Faults.{first_fault}
use Rattle.cb_lists.specs.declared.lists.Columns.{Columns}
use Rattle.cb_operations.specs.declared.refusals.Refusal.{Refusal}
use Rattle.cb_operations.specs.declared.refusals.Refusal.TheVariants as refusal_is
use Rattle.cb_operations.specs.declared.refusals.ComputeFault.{ComputeFault}
use Rattle.cb_operations.specs.declared.refusals.ComputeFault.TheVariants as compute_fault
use Rattle.cb_kept.specs.declared.faults.Fault.{Fault}
use Rattle.cb_kept.specs.declared.faults.Fault.TheVariants.{Semiring, Test, Mixed, Form, TooLarge, Lengths, Order, Place, Value, Shapes, NotColumn, NotSquare, Source, Text, Memory}
use Rattle.cb_lists.specs.Lists.{HasForm, Fits, HaveLengths, AreOrdered, AreInside, AreValues}

-- the number of a fault
abbrev pub code_of : Fault → ℕ
code_of Semiring = 1
code_of Test = 2
code_of Mixed = 3
code_of Form = 4
code_of TooLarge = 5
code_of Lengths = 6
code_of Order = 7
code_of Place = 8
code_of Value = 9
code_of Shapes = 10
code_of NotSquare = 11
code_of Source = 12
code_of Text = 13
code_of Memory = 14
code_of NotColumn = 16

-- the fault of what is refused
abbrev pub refused_as : Refusal → Fault
refused_as refusal_is.Shapes = Shapes
refused_as refusal_is.NoValue = Value
refused_as refusal_is.NotColumn = NotColumn
refused_as refusal_is.NotSquare = NotSquare
refused_as refusal_is.Source = Source
refused_as refusal_is.TooLarge = TooLarge
refused_as refusal_is.Place = Place
refused_as refusal_is.NoRow = Place
refused_as refusal_is.NoColumn = Place

-- the fault of what isn't computed
abbrev pub uncomputed_as : ComputeFault → Fault
uncomputed_as (compute_fault.Refused refusal) = refused_as refusal
uncomputed_as compute_fault.Memory = Memory

-- the fault g if P doesn't hold, or else one of the faults that come next
abbrev pub Unless : Type 0 → Fault → (Fault → Type 0) → Fault → Type 0
Unless P g next f = ((f ≡ g) × (P → ⊥)) ⊎ (P × next f)

-- refused memory, if there is no other fault
abbrev pub IsMemory : Fault → Type 0
IsMemory f = f ≡ Memory

-- the faults of a matrix, and then those that come next
unfoldable pub matrix_faults : Arithmetic → Columns → (Fault → Type 0) → Fault → Type 0
matrix_faults s c next =
    Unless (HasForm c) Form
    (Unless (Fits c) TooLarge
    (Unless (HaveLengths c) Lengths
    (Unless (AreOrdered c) Order
    (Unless (AreInside c) Place
    (Unless (AreValues s c) Value next)))))

-- the faults of lists, over one semiring
unfoldable pub list_faults : Arithmetic → Columns → Fault → Type 0
list_faults s a = matrix_faults s a IsMemory

-- a text with a fault; memory may be refused before the fault is found
abbrev pub read_faults : Arithmetic → List ℕ → Fault → Type 0
read_faults s text f = ((f ≡ Text) × (first_fault s text ≢ None)) ⊎ (f ≡ Memory)

-- ---- over the semiring of a number, if there is one
-- the faults of a call over that semiring
abbrev pub over : Option SemiringName → (Arithmetic → Fault → Type 0) → Fault → Type 0
over None faults = λ f. f ≡ Semiring
over (Some name) faults = faults (arithmetic_of name)

-- the first fault of a text over that semiring
abbrev pub first_over : Option SemiringName → List ℕ → Option ReadFault
first_over None text = None
first_over (Some name) text = first_fault (arithmetic_of name) text
