use Rattle.std.proofs.Common.{◌∙◌, ap, arith, map}
use Rattle.cb_command_line.specs.Table.{command_shape}
use Rattle.cb_command_line.proofs.CommandLemmas.{commands_more}
use Rattle.cb_command_line.proofs.commands.push_commands.Goals as goal

pub loop-outline-preserved : goal.loop-outline-preserved
loop-outline-preserved c =
    ap (map command_shape) c.in_ok-push.ensures.items
    ∙ commands_more c.args.first.now c.args.last.now c.args.outlines.now c.loop-outline.outline-index _ c.loop-outline.commands.items c.args.commands.now.items
    c.in_ok-made.made (omega arith) c.in_ok-made.ensures c.loop-outline.invariant
