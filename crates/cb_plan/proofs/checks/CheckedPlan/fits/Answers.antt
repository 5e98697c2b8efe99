use Rattle.std.proofs.Common.{◌∙◌, sym, arith}
use Rattle.std.proofs.lemmas.Bool.Decides.{nat_tests}
use Rattle.cb_plan.proofs.FittingStores.{fits_then, fits_else}
use Rattle.cb_plan.proofs.checks.CheckedPlan.fits.Goals as goal

pub returns-then-all_stand : goal.returns-then-all_stand
returns-then-all_stand g c =
    fits_then c.args.self.now c.args.stores.now c.starts-starts.result.now c.count_filled.result c.ranks.ensures.checked (omega (arith, c.ranks.ensures.ranks)) c.count_filled.ensures.sizes c.starts-starts.ensures.starts (sym c.all_stand.ensures ∙ c.if-all_stand.true) c.count_filled.ensures.value

pub returns-else-all_stand : goal.returns-else-all_stand
returns-else-all_stand g c = (
  λ h. absurd (grind (arith, nat_tests)),
  λ fits. absurd (fits_else c.args.self.now c.args.stores.now c.starts-starts.result.now c.ranks.ensures.checked c.starts-starts.ensures.starts (sym c.all_stand.ensures ∙ c.if-all_stand.false) fits),
)
