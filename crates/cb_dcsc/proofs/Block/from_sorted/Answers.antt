use Rattle.std.proofs.Common.{◌≡◌, None, rules}
use Rattle.cb_dcsc.specs.BlockFaults.{first_fault}
use Rattle.cb_dcsc.proofs.Faultless.{faultless}
use Rattle.cb_dcsc.proofs.Block.from_sorted.Goals as goal

pub from_ordered-requires-clause-inside : goal.from_ordered-requires-clause-inside
from_ordered-requires-clause-inside g c =
    let none : first_fault g.S.Semiring.arithmetic c.args.shape c.args.entries.now ≡ None = search rules in
    (faultless g.S.Semiring.arithmetic c.args.shape 0 None c.args.entries.now none).inside

pub from_ordered-requires-clause-order : goal.from_ordered-requires-clause-order
from_ordered-requires-clause-order g c =
    let none : first_fault g.S.Semiring.arithmetic c.args.shape c.args.entries.now ≡ None = search rules in
    (faultless g.S.Semiring.arithmetic c.args.shape 0 None c.args.entries.now none).ascending

pub from_ordered-requires-clause-not_zero : goal.from_ordered-requires-clause-not_zero
from_ordered-requires-clause-not_zero g c =
    let none : first_fault g.S.Semiring.arithmetic c.args.shape c.args.entries.now ≡ None = search rules in
    (faultless g.S.Semiring.arithmetic c.args.shape 0 None c.args.entries.now none).not_zero
