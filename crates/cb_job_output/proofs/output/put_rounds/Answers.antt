use Rattle.std.proofs.Common.{◌≡◌, [], ◌++◌, refl, ap, sym, ◌∙◌}
use Rattle.cb_job_ends.proofs.SinkLemmas.{appends_page, prefix_page, put_stopped}
use Rattle.cb_job_output.specs.Rounds.{joined}
use Rattle.cb_job_output.proofs.output.put_rounds.Goals as goal

pub loop-is_left-preserved : goal.loop-is_left-preserved
loop-is_left-preserved g c =
    let i = c.loop-is_left.invariant in
    let put = c.in_ok-put_while_made.ensures in
    let made = joined c.loop-is_left.round.dealt in
    let coming = c.put_while_made.new.rest.coming in
    let text = c.put_while_made.new.rest.text in
    let first = joined c.swap.new.x.dealt in
    let second = joined c.swap-in-loop-is_left.new.x in
    let round = c.swap.ensures.x_after in
    let dealt : second ≡ joined coming = ap joined c.swap-in-loop-is_left.ensures.x_after in
    let same : first ≡ joined c.loop-is_left.next.dealt = (λ t. joined (round t).dealt) ∙ ap joined put.same in
    let others : second ++ text ≡ c.loop-is_left.rest.text = ap (λ bytes. bytes ++ text) dealt ∙ sym put.text in
    let left : made ++ (joined c.loop-is_left.next.dealt ++ c.loop-is_left.rest.text) ≡ made ++ (first ++ (second ++ text)) = λ t. made ++ (sym same t ++ sym others t) in
    record {
      text = appends_page _ _ _ i.text.0 made _ (first ++ (second ++ text)) _ i.text.1 put.put.whole left i.text.2;
      works = put.put.works;
      all = rw round put.made;
      rest = λ e. let none : joined coming ≡ [] = sym dealt ∙ e in sym (ap (λ bytes. bytes ++ text) none) ∙ sym put.text ∙ put.none none;
      none = c.are_left-is_left.ensures.none;
    }

pub returns-in_err-put_while_made : goal.returns-in_err-put_while_made
returns-in_err-put_while_made g c =
    let i = c.loop-is_left.invariant in
    let put = c.in_err-put_while_made.ensures.put in
    let rest = joined c.loop-is_left.next.dealt ++ c.loop-is_left.rest.text in
    put_stopped _ c.from_residual.result c.from_residual.ensures.1
    (prefix_page _ _ _ i.text.0 (joined c.loop-is_left.round.dealt) _ rest _ i.text.1 put.prefix refl i.text.2) put.fails
