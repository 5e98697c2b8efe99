use Rattle.std.proofs.Common.{◌≡◌, ◌++◌, map, take}
use Rattle.cb_command_line.specs.Table.{arg_rule, choice_rule}
use Rattle.cb_command_line.proofs.commands.push_options.Given as goal

-- one argument for each option so far
abbrev pub invariant-loop-choice : goal.invariant-loop-choice
invariant-loop-choice l = map arg_rule l.arguments.items ≡ map arg_rule l.initial.arguments.items ++ map choice_rule (take l.choice-index l.choices)
