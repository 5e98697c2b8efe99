use Rattle.std.proofs.Common.{rules, ◌≡◌, subst}
use Rattle.std.specs.Prelude.{option_copied}
use Rattle.cb_matrix.specs.Sparse.{Sparse, Extent}
use Rattle.cb_selections.specs.Extracted.{extracted_by}
use Rattle.cb_shares.specs.Shares.{panel}
use Rattle.cb_kept.specs.Answers.{NoFault}
use Rattle.cb_kept.specs.KeptExtracts.{number_faults}
use Rattle.cb_kept.proofs.WholeColumns.{inside_values, keeps_columns}
use Rattle.cb_kept.proofs.kept_extracts.extract_kept.Goals as goal

pub returns : goal.returns
returns g c =
    let s = g.S.Semiring.arithmetic in
    let first = c.args.first in
    let end = c.args.end in
    let whole : Sparse = extracted_by s (option_copied c.args.rows) (option_copied c.args.cols) c.args.matrix.now in
    let part : c.in_ok-part.part ≡ panel whole first end = search rules in (
      subst (λ (d : Extent). NoFault (number_faults (option_copied c.args.rows) (option_copied c.args.cols) d)) c.shape.ensures.shape c.in_ok-check_numbers.ensures.none,
      keeps_columns g.S.Keep.name whole c.in_ok-part.part first end c.keep_block.result (inside_values s _ _) part c.keep_block.ensures.keeps,
    )

pub returns-in_err-part : goal.returns-in_err-part
returns-in_err-part g c = let memory = c.in_ok-check_numbers.ensures.none.memory in search rules
