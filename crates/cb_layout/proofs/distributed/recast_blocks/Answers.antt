use Rattle.std.proofs.Common.{rules, [], ◌∷◌, ◌++◌, ◌∙◌, ap, append_assoc, sym}
use Rattle.cb_layout.proofs.distributed.recast_blocks.Goals as goal

pub loop-block-preserved : goal.loop-block-preserved
loop-block-preserved g c =
    let old = c.loop-block.recast.items in
    let rest = c.next.new.self.rest.items in
    let items = c.push_reserved.ensures.items ∙ ap (λ b. old ++ b ∷ []) c.recast.ensures in
    record {
      blocks = ap (λ xs. xs ++ rest) items ∙ append_assoc old (c.in-Some.block ∷ []) rest ∙ ap (λ xs. old ++ xs) (sym c.in-Some.ensures.steps.0) ∙ c.loop-block.invariant.blocks;
      room = search rules;
    }
