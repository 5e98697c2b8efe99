use Rattle.std.proofs.Common.{◌≡◌, ◌++◌, map, take}
use Rattle.cb_command_line.specs.Table.{arg_rule, file}
use Rattle.cb_command_line.proofs.commands.push_files.Given as goal

-- one argument for each file so far
abbrev pub invariant-loop-name : goal.invariant-loop-name
invariant-loop-name l = map arg_rule l.arguments.items ≡ map arg_rule l.initial.arguments.items ++ map (λ name. file name.now) (take l.name-index l.files)
