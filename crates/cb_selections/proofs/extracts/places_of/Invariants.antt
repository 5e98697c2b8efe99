use Rattle.cb_selections.proofs.ListedRows.{ArePlacesTo}
use Rattle.cb_selections.proofs.extracts.places_of.Given as goal

abbrev pub invariant-loop-n : goal.invariant-loop-n
invariant-loop-n l = ArePlacesTo l.bound l.n l.listed l.places.items
