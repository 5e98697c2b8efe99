use Rattle.std.proofs.Common.{ℕ, ℤ, List, Result, w64}
use Rattle.std.specs.Str.Parse.{ExplainsSignedError, HasSignedDigitsIfOk, ParsesSigned}
use Rattle.std.specs.declared.num.ParseIntError.{ParseIntError}
use Rattle.clap.specs.Matches.{found_of}
use Rattle.cb_command_line.proofs.OptionLemmas.{integer_by_rows}
use Rattle.cb_command_line.proofs.options.integer_of.Goals as goal

-- what `from_str` gives of the type
abbrev gives : List ℕ → Result ℤ ParseIntError → Type 0
gives text r = ParsesSigned w64 10 text r × ExplainsSignedError 10 text r × HasSignedDigitsIfOk text r

pub returns : goal.returns
returns c = integer_by_rows gives (found_of c.args.found.now) c.args.option.now c.get_one.result (λ t n given. given.0.1) c.get_one.ensures.none c.get_one.ensures.value
