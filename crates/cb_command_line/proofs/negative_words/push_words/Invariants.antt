use Rattle.std.proofs.Common.{◌≡◌, ◌++◌, map, take, string_bytes}
use Rattle.clap.specs.Walk.{texts}
use Rattle.cb_command_line.proofs.negative_words.push_words.Given as goal

-- the words so far
abbrev pub invariant-loop-word : goal.invariant-loop-word
invariant-loop-word l = texts l.all.items ≡ texts l.initial.all.items ++ map string_bytes (take l.word-index l.words)
