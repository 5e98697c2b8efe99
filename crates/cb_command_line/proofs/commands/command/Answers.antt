use Rattle.std.proofs.Common.{◌≡◌, ◌∙◌, [], ◌++◌, ap, map, rules}
use Rattle.clap.specs.Simple.{App, shape_of_fields}
use Rattle.clap.specs.declared.builder.command.Command.{Command}
use Rattle.clap.specs.declared.builder.command.Command.TheOpen.{Command-F}
use Rattle.cb_command_line.specs.Table.{arg_rule, plain_shape, rules_between}
use Rattle.cb_command_line.proofs.CommandLemmas.{made_of}
use Rattle.cb_command_line.proofs.commands.command.Goals as goal

pub returns : goal.returns
returns c =
    let first = c.args.first.now in
    let last = c.args.last.now in
    let outline = c.args.outline.now in
    let none : c.new-arguments.result.items ≡ [] = search rules in
    made_of c.after_help.result c.in_ok-made.made c.push_arguments.new.arguments.items first last outline
    (ap (λ (f : Command-F Command). plain_shape (shape_of_fields f)) c.after_help.ensures
    ∙ ap (λ (f : Command-F Command). plain_shape (shape_of_fields f)) c.about.ensures ∙ ap (λ (x : App). plain_shape x.top) c.new.ensures.app)
    (c.in_ok-push_arguments.ensures ∙ ap (λ xs. map arg_rule xs ++ rules_between first last outline) none)
    c.in_ok-made.ensures
