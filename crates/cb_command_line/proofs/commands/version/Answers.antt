use Rattle.std.proofs.Common.{◌∙◌, ap, Some}
use Rattle.clap.specs.Walk.{Rule}
use Rattle.cb_command_line.specs.Table.{arg_rule}
use Rattle.cb_command_line.proofs.commands.version.Goals as goal

pub returns : goal.returns
returns c =
    ap arg_rule c.display_order.ensures ∙ ap arg_rule c.short.ensures ∙ ap (λ (r : Rule). record r { short = Some 86 }) c.option_of.ensures
