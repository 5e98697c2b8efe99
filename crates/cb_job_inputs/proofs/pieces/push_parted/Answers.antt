use Rattle.std.proofs.Common.{◌≡◌, List, ℕ, ◌++◌, true, ap, sym, subst, ◌∙◌, append_assoc}
use Rattle.std.proofs.lemmas.List.Elements.{All-push}
use Rattle.cb_market.specs.Pieces.{is_whole}
use Rattle.cb_job_inputs.specs.TextPieces.{in_a_row}
use Rattle.cb_job_inputs.proofs.CutTexts.{row_more, whole_rest}
use Rattle.cb_job_inputs.proofs.pieces.push_parted.Goals as goal

pub loop-pieces-preserved : goal.loop-pieces-preserved
loop-pieces-preserved c =
    let i = c.loop-pieces.invariant in
    let before = c.loop-pieces.cut.items in
    let piece = c.parted.result.0.now in
    let left = c.parted.result.1.now in
    let pushed = c.in_ok-push.ensures.items in
    record {
      all = ap (λ ps. in_a_row ps ++ left) pushed ∙ ap (λ t. t ++ left) (row_more before piece) ∙ append_assoc (in_a_row before) piece left ∙ ap (λ t. in_a_row before ++ t) c.parted.ensures.both ∙ i.all;
      ends = rw pushed (All-push (λ (p : List ℕ). is_whole p ≡ true) before piece i.ends c.parted.ensures.whole);
      last = λ h. whole_rest piece left (subst (λ t. is_whole t ≡ true) (sym c.parted.ensures.both) (i.last h));
    }
