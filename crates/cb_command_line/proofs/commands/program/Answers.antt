use Rattle.std.proofs.Common.{◌≡◌, ◌∙◌, [], ◌++◌, ap, map, rules}
use Rattle.cb_command_line.specs.Table.{all_shapes, command_shape}
use Rattle.cb_command_line.proofs.CommandLemmas.{of_table}
use Rattle.cb_command_line.proofs.commands.program.Goals as goal

pub returns : goal.returns
returns c =
    let none : c.new-commands.result.items ≡ [] = search rules in
    of_table c.program_alone.result c.in_ok-program.program c.in_ok-whole.whole c.push_all_commands.new.commands.items c.version.result
    c.program_alone.ensures c.in_ok-program.ensures
    (c.in_ok-push_all_commands.ensures ∙ ap (λ xs. map command_shape xs ++ all_shapes) none)
    c.in_ok-whole.ensures c.version.ensures
