use Rattle.std.proofs.Common.{rules, ◌≡◌, ◌≤◌, length, subst}
use Rattle.cb_matrix.specs.declared.TheConstants.{LIMIT}
use Rattle.cb_matrix.specs.Sparse.{Extent}
use Rattle.cb_kept.specs.Misfits.{IsFirst, IsTripleOutside}
use Rattle.cb_kept.specs.Triples.{AreWithin}
use Rattle.cb_kept.proofs.FirstMisfits.{no_triple, outside_triple, other_triple}
use Rattle.cb_kept.proofs.misfits.misfit_in_triples.Goals as goal

pub returns-in_default : goal.returns-in_default
returns-in_default g c f h =
    let n : (c.args.nrows ≤ LIMIT) × (c.args.ncols ≤ LIMIT) → ⊥ = search rules in
    no_triple g.S.Semiring.arithmetic c.args.nrows c.args.ncols c.args.triples.now f 0 n h

pub returns-then-not-are_within : goal.returns-then-not-are_within
returns-then-not-are_within g c f h =
    let ts = c.args.triples.now in
    let shape : Extent = record { rows = c.args.nrows; cols = c.args.ncols } in
    let fits : (c.args.nrows ≤ LIMIT) × (c.args.ncols ≤ LIMIT) = search rules in
    let e : c.in-Some.shape ≡ shape = search rules in
    let n : AreWithin c.in-Some.shape ts → ⊥ = search rules in
    outside_triple g.S.Semiring.arithmetic c.args.nrows c.args.ncols ts f c.first_outside_triple.result fits (subst (λ d. AreWithin d ts → ⊥) e n)
    (subst (λ d. IsFirst (IsTripleOutside d ts) (length ts) c.first_outside_triple.result) e c.first_outside_triple.ensures) h

pub returns : goal.returns
returns g c f h =
    let ts = c.args.triples.now in
    let shape : Extent = record { rows = c.args.nrows; cols = c.args.ncols } in
    let fits : (c.args.nrows ≤ LIMIT) × (c.args.ncols ≤ LIMIT) = search rules in
    let e : c.in-Some.shape ≡ shape = search rules in
    let within : AreWithin c.in-Some.shape ts = search rules in
    other_triple g.S.Semiring.arithmetic c.args.nrows c.args.ncols ts f c.first_other_triple.result fits (subst (λ d. AreWithin d ts) e within) c.first_other_triple.ensures h
