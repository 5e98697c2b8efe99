use Rattle.std.proofs.Common.{◌∙◌, [], ◌∷◌, ◌++◌, ap, map, refl}
use Rattle.cb_command_line.specs.Table.{all_shapes, command_shape, semiring_option, rank_options, operation_lines, selection_lines, search_lines, graph_lines}
use Rattle.cb_command_line.proofs.CommandLemmas.{four_joined, lines_of}
use Rattle.cb_command_line.proofs.commands.push_all_commands.Goals as goal

pub returns : goal.returns
unfolding all_shapes
returns c =
    four_joined _ _ _ _ _ _ _ _ _
    (c.in_ok-push_commands.ensures ∙ ap (λ xs. map command_shape c.args.commands.now.items ++ xs)
    (lines_of (c.semiring.result ∷ []) c.by_ranks.result.now c.operations.result.now (semiring_option ∷ []) rank_options operation_lines (ap (λ x. x ∷ []) c.semiring.ensures) c.by_ranks.ensures c.operations.ensures))
    (c.in_ok-push_commands-2.ensures ∙ ap (λ xs. map command_shape c.push_commands.new.commands.items ++ xs)
    (lines_of (c.semiring.result ∷ []) [] c.selections.result.now (semiring_option ∷ []) [] selection_lines (ap (λ x. x ∷ []) c.semiring.ensures) refl c.selections.ensures))
    (c.in_ok-push_commands-3.ensures ∙ ap (λ xs. map command_shape c.push_commands-2.new.commands.items ++ xs)
    (lines_of [] c.by_ranks-2.result.now c.searches.result.now [] rank_options search_lines refl c.by_ranks-2.ensures c.searches.ensures))
    (c.in_ok-push_commands-4.ensures ∙ ap (λ xs. map command_shape c.push_commands-3.new.commands.items ++ xs)
    (lines_of [] [] c.graphs.result.now [] [] graph_lines refl refl c.graphs.ensures))
