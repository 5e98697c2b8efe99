use Rattle.cb_kept.proofs.kept_sums.add_over.Goals as goal

pub returns : goal.returns
returns g c = record {
  answer = (c.in_ok-check_shares.ensures.none, record { shares = c.add_share.ensures.shares; totals = c.add_share.ensures.totals });
  unchanged = tt;
}
