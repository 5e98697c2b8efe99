use Rattle.cb_job_output.proofs.LineLemmas.{text_then_lines, unwritten_lines, works_after}
use Rattle.cb_job_output.proofs.output.put_text_and_lines.Goals as goal

pub put_all-requires : goal.put_all-requires
put_all-requires g c = works_after _ _ _ _ _ c.in-Ok.ensures

pub returns-in-Ok : goal.returns-in-Ok
returns-in-Ok g c =
    let put = c.put_all.ensures in
    rw c.put_end.ensures (text_then_lines _ _ _ _ _ _ _ _ _ c.in-Ok.ensures put.whole put.works put.prefix put.fails)

pub returns-in-Err : goal.returns-in-Err
returns-in-Err g c = unwritten_lines _ _ _ _ _ _ c.in-Err.ensures
