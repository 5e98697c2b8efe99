use Rattle.std.proofs.Common.{◌≡◌, ◌++◌, map, take}
use Rattle.cb_command_line.specs.Table.{choice_rule, command_shape, outline_line, shape_of_line}
use Rattle.cb_command_line.proofs.commands.push_commands.Given as goal

-- one command for each outline so far
abbrev pub invariant-loop-outline : goal.invariant-loop-outline
invariant-loop-outline l = map command_shape l.commands.items ≡ map command_shape l.initial.commands.items
    ++ map (λ o. shape_of_line (map choice_rule l.first) (map choice_rule l.last) (outline_line o)) (take l.outline-index l.outlines)
