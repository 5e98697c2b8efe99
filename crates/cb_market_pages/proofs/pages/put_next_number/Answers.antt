use Rattle.std.proofs.Common.{ℕ, List, [], ◌∷◌, ◌++◌, ◌/◌, take, ap, ◌∙◌, append_assoc, append-nil, arith}
use Rattle.std.specs.Prelude.{decimal}
use Rattle.std.proofs.lemmas.Fmt.{length-decimal-le}
use Rattle.cb_market_pages.proofs.Digits.{past_last}
use Rattle.cb_market_pages.proofs.pages.put_next_number.Goals as goal

pub put_bytes-requires : goal.put_bytes-requires
put_bytes-requires c =
    let digits = length-decimal-le 19 (c.args.number / 10) (omega arith) (omega arith) (omega arith) in
    omega (arith, digits, c.put_number-end.ensures.end, c.requires, c.put_number-end.auto.buffer)

pub returns-clause-written : goal.returns-clause-written
returns-clause-written c =
    let before = take c.args.at c.args.buffer.now in
    let front = decimal (c.args.number / 10) in
    c.put_bytes.ensures.written
    ∙ ap (λ (bytes : List ℕ). bytes ++ c.args.after ∷ [])
    (append-nil (take c.put_number-end.result c.put_number-end.new.buffer) ∙ c.put_number-end.ensures.written ∙ append_assoc before front (54 ∷ []) ∙ ap (λ (digits : List ℕ). before ++ digits) (past_last c.args.number (omega arith)))

pub returns-clause-limit : goal.returns-clause-limit
returns-clause-limit c =
    let digits = length-decimal-le 19 (c.args.number / 10) (omega arith) (omega arith) (omega arith) in
    omega (arith, digits, c.put_number-end.ensures.end, c.put_bytes.ensures.end)
