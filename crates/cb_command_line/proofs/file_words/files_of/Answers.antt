use Rattle.std.proofs.Common.{◌∙◌, ap, sym, arith, map, List, ℕ, Bor}
use Rattle.std.proofs.lemmas.List.{take_all}
use Rattle.std.proofs.lemmas.Simd.{map-map}
use Rattle.cb_command_line.specs.Options.{rows_in, word}
use Rattle.cb_command_line.proofs.file_words.files_of.Goals as goal

pub returns-clause-names : goal.returns-clause-names
returns-clause-names c =
    let names : List (Bor (List ℕ)) = c.args.arguments.now in
    let rows = rows_in c.args.found.now in
    c.loop-argument.invariant.1
    ∙ ap (map (λ (name : Bor (List ℕ)). word name.now rows)) (take_all c.loop-argument.argument-index names (omega arith))
    ∙ sym (map-map (λ (name : List ℕ). word name rows) (λ (name : Bor (List ℕ)). name.now) names)
