use Rattle.std.proofs.Common.{◌∙◌}
use Rattle.clap.specs.Matches.{found_of}
use Rattle.cb_command_line.proofs.OptionLemmas.{there_by_rows}
use Rattle.cb_command_line.proofs.options.is_there.Goals as goal

pub returns : goal.returns
returns c = c.contains_id.ensures ∙ there_by_rows (found_of c.args.found.now) c.args.option.now
