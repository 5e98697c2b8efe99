use Rattle.std.proofs.Common.{arith, sym, ◌∙◌, ◌≡◌, length, get_or}
use Rattle.std.proofs.lemmas.Bool.{eqb-true, eqb-false}
use Rattle.cb_matrix.specs.declared.Entry.{Entry}
use Rattle.cb_matrix.proofs.InPlace.{in_place_none, in_place_start, in_place_end, in_place_value, in_place_current, in_place_same, in_place_next}
use Rattle.cb_matrix.proofs.collect.combine.Goals as goal
use Rattle.cb_matrix.proofs.collect.combine.Goals.{then-entry-current+then-entry-current-2, else-entry-current, else-entry-current-via-then-entry-current+else-entry-current-2, else-entry-current-via-else-entry-current}

abbrev blank : Entry
blank = record { row = 0; column = 0; value = 0 }

pub returns-then-is_empty : goal.returns-then-is_empty
returns-then-is_empty g c =
    in_place_none g.S.Semiring.arithmetic g.met.S.Semiring.is_semiring c.args.entries.now (eqb-true (length c.args.entries.now) 0 (sym c.is_empty.ensures ∙ c.if-is_empty.true))

pub loop-index-init : goal.loop-index-init
loop-index-init g c =
    let some = eqb-false (length c.args.entries.now) 0 (sym c.is_empty.ensures ∙ c.if-is_empty.false) in
    in_place_start g.S.Semiring.arithmetic g.met.S.Semiring.is_semiring c.args.entries.now blank (omega arith) c.requires.values c.requires.order

pub add-requires-clause-left_is_value : goal.add-requires-clause-left_is_value
add-requires-clause-left_is_value g c =
    in_place_current g.S.Semiring.arithmetic g.met.S.Semiring.is_semiring c.args.entries.now c.loop-index.entries c.loop-index.kept c.loop-index.index c.loop-index.current c.requires.values c.loop-index.invariant blank c.loop-index-test.true

pub add-requires-clause-right_is_value : goal.add-requires-clause-right_is_value
add-requires-clause-right_is_value g c =
    in_place_value g.S.Semiring.arithmetic g.met.S.Semiring.is_semiring c.args.entries.now c.loop-index.entries c.loop-index.kept c.loop-index.index c.loop-index.current c.requires.values c.loop-index.invariant blank c.loop-index-test.true

pub keep-kept-requires : goal.keep-kept-requires
keep-kept-requires g c = omega (arith, c.loop-index.invariant.behind, c.loop-index.auto.entries)

pub loop-index-preserved : goal.loop-index-preserved
loop-index-preserved g c =
    let s = g.S.Semiring.arithmetic in
    let laws = g.met.S.Semiring.is_semiring in
    let given = c.args.entries.now in
    let now = c.loop-index.entries in
    let kept = c.loop-index.kept in
    let next = c.loop-index.index in
    let old = c.loop-index.current in
    elim c.if-entry-current.branch [
      | then-entry-current+then-entry-current-2 w ↦
          let step = in_place_same s laws given now kept next old c.requires.values c.loop-index.invariant blank c.loop-index-test.true w.if-entry-current.true w.if-entry-current-2.true in
          rw (w.current-is, w.kept-is, w.entries-is, w.add.ensures) step
      | else-entry-current w ↦
          let entry : Entry = get_or now next blank in
          let apart : entry.row ≡ old.row → entry.column ≡ old.column → ⊥ = elim w.else-entry-current.branch [
            | else-entry-current-via-then-entry-current+else-entry-current-2 v ↦ λ p q. v.if-entry-current-2.false q
            | else-entry-current-via-else-entry-current v ↦ λ p q. v.if-entry-current.false p
          ] in
          let step = in_place_next s laws given now kept next old c.requires.values c.loop-index.invariant blank c.loop-index-test.true c.requires.order apart w.keep-kept.new.entries w.keep-kept.result w.keep-kept.ensures.count w.keep-kept.ensures.kept w.keep-kept.ensures.rest in
          rw (w.current-is, w.kept-is, w.entries-is) step
    ]

pub keep-requires : goal.keep-requires
keep-requires g c =
    let some = eqb-false (length c.args.entries.now) 0 (sym c.is_empty.ensures ∙ c.if-is_empty.false) in
    omega (arith, c.loop-index.invariant.behind, c.loop-index.auto.entries, c.loop-index.auto.index-end)

pub returns : goal.returns
returns g c =
    in_place_end g.S.Semiring.arithmetic g.met.S.Semiring.is_semiring c.args.entries.now c.loop-index.entries c.loop-index.kept c.loop-index.index c.loop-index.current c.requires.values c.loop-index.invariant _ c.loop-index-test.false c.keep.ensures.kept
