use Rattle.std.proofs.Common.{◌≡◌, ◌∙◌, ap, length, option_map, Some}
use Rattle.clap.specs.Walk.{Rule, texts}
use Rattle.cb_command_line.specs.Table.{arg_rule, plain_parser, plain_rule}
use Rattle.cb_command_line.proofs.commands.option_of.Goals as goal

pub returns : goal.returns
returns c =
    let choice = c.args.choice.now in
    let given = c.value_parser.ensures.given in
    let parser : c.value_parser.result.value_parser ≡ Some choice.parser = given.1 ∙ ap Some given.2 in
    ap arg_rule c.required.ensures
    ∙ ap (λ (r : Rule). record r { required = choice.is_required }) (ap arg_rule c.default_values.ensures
    ∙ ap (λ (r : Rule). record r { defaults = texts choice.default.now }) (ap arg_rule c.value_parser.ensures.others
    ∙ ap (λ p. record (arg_rule c.value_names.result) { parser = option_map plain_parser p }) parser
    ∙ ap (λ (r : Rule). record r { parser = Some (plain_parser choice.parser) }) (ap arg_rule c.value_names.ensures
    ∙ ap (λ (r : Rule). record r { value_names = length choice.value.now }) (ap arg_rule c.action.ensures
    ∙ ap (λ (r : Rule). record r { action = Some choice.action }) (ap arg_rule c.help.ensures ∙ ap arg_rule c.long.ensures
    ∙ ap (λ (r : Rule). record r { long = Some choice.name.now }) (ap plain_rule c.new.ensures.rule))))))
