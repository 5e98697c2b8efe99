use Rattle.std.proofs.Common.{◌≡◌, Some, map, take, string_bytes, vec_len}
use Rattle.cb_command_line.specs.Options.{rows_in, word}
use Rattle.cb_command_line.proofs.file_words.files_of.Given as goal

-- one file for each argument so far, with its word
abbrev pub invariant-loop-argument : goal.invariant-loop-argument
invariant-loop-argument l = (vec_len l.files ≡ l.argument-index)
    × (map (λ file. Some (string_bytes file)) l.files.items
    ≡ map (λ name. word name.now (rows_in l.found)) (take l.argument-index l.arguments))
