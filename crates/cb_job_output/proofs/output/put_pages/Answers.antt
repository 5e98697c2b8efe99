use Rattle.std.proofs.Common.{◌++◌, [], refl, ap, sym, ◌∙◌}
use Rattle.cb_job_ends.proofs.SinkLemmas.{appends_none, appends_page, prefix_page, put_stopped}
use Rattle.cb_job_output.proofs.output.put_pages.Goals as goal

pub loop-out-init : goal.loop-out-init
loop-out-init g c = (([], appends_none _, refl), c.requires)

pub loop-out-preserved : goal.loop-out-preserved
loop-out-preserved g c =
    let i = c.loop-out.invariant.0 in
    let e = c.next_page.ensures.page ∙ ap (λ p. p ++ c.next_page.new.self) (sym c.written.ensures) in
    (appends_page _ _ _ i.0 c.written.result.now c.loop-out.text c.next_page.new.self _ i.1 c.in_ok-put_all.ensures.whole e i.2, c.in_ok-put_all.ensures.works)

pub returns-in_err-put_all : goal.returns-in_err-put_all
returns-in_err-put_all g c =
    let i = c.loop-out.invariant.0 in
    let put = c.in_err-put_all.ensures in
    let e = c.next_page.ensures.page ∙ ap (λ p. p ++ c.next_page.new.self) (sym c.written.ensures) in
    put_stopped _ c.from_residual.result c.from_residual.ensures.1
    (prefix_page _ _ _ i.0 c.written.result.now c.loop-out.text c.next_page.new.self _ i.1 put.prefix e i.2) put.fails
