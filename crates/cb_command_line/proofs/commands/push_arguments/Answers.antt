use Rattle.std.proofs.Common.{◌∙◌, ap, ◌++◌, map}
use Rattle.cb_command_line.specs.Table.{arg_rule}
use Rattle.cb_command_line.proofs.CommandLemmas.{files_named, four_joined}
use Rattle.cb_command_line.proofs.commands.push_arguments.Goals as goal

pub returns : goal.returns
returns c =
    four_joined _ _ _ _ _ _ _ _ _
    (c.in_ok-push_files.ensures ∙ ap (λ xs. map arg_rule c.args.arguments.now.items ++ xs) (files_named c.args.outline.now.files.now))
    c.in_ok-push_options.ensures c.in_ok-push_options-2.ensures c.in_ok-push_options-3.ensures
