use Rattle.std.proofs.Common.{◌≡◌, ◌≢◌, ℕ, ◌/◌, ◌+◌, ◌-◌, ◌<◌, ◌≤◌, arith}
use Rattle.std.proofs.Math.Nat.{div-mul-le_self}
use Rattle.std.proofs.lemmas.Nat.{le-div}
use Rattle.cb_shares.proofs.products.outer_columns.Goals as goal
use Rattle.cb_shares.proofs.products.outer_columns.Goals.{then-end-eq0, else-end-eq0}

later : (w m n : ℕ) → 0 < w → m ≤ n → m / w ≤ n / w
later w m n some l = le-div (m / w) n w some (let back = div-mul-le_self m w in omega arith)

pub returns : goal.returns
returns c j l m =
    elim c.if-end-eq0.branch [
      | then-end-eq0 w ↦ let none : c.args.end ≡ 0 = w.if-end-eq0.true in absurd (omega arith)
      | else-end-eq0 w ↦
          let width = c.args.width in
          let some : c.args.end ≢ 0 = w.if-end-eq0.false in
          let high_is : c.if-end-eq0.high ≡ (c.args.end - 1) / width + 1 = w.high-is in
          let last = later width j (c.args.end - 1) c.requires (omega arith) in
          (later width c.args.first j c.requires l, omega arith)
    ]
