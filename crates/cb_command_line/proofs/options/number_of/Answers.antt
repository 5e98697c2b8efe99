use Rattle.std.proofs.Common.{ℕ, List, Result}
use Rattle.std.specs.Str.Parse.{ExplainsUnsignedError, HasUnsignedDigitsIfOk, ParsesUnsigned}
use Rattle.std.specs.declared.num.ParseIntError.{ParseIntError}
use Rattle.clap.specs.Matches.{found_of}
use Rattle.cb_command_line.proofs.OptionLemmas.{number_by_rows}
use Rattle.cb_command_line.proofs.options.number_of.Goals as goal

-- what `from_str` gives of the type
abbrev gives : List ℕ → Result ℕ ParseIntError → Type 0
gives text r = ParsesUnsigned 64 10 text r × ExplainsUnsignedError 10 text r × HasUnsignedDigitsIfOk text r

pub returns : goal.returns
returns c = number_by_rows gives 64 (found_of c.args.found.now) c.args.option.now c.get_one.result (λ t x given. given.0) c.get_one.ensures.none c.get_one.ensures.value
