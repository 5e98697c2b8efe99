use Rattle.std.proofs.Common.{◌≡◌, ℕ, ◌<◌, ◌≤◌, length, get_or}
use Rattle.cb_shares.proofs.sums.add_share.Given as goal

-- the numbers so far are added, and the others are as they were
abbrev pub invariant-loop-n : goal.invariant-loop-n
invariant-loop-n g l =
    let s = g.S.Semiring.arithmetic in
    record {
      long : length l.sums ≡ length l.fn.sums;
      done : (i : ℕ) → i < l.n → get_or l.sums i s.zero ≡ s.add (get_or l.fn.sums i s.zero) (get_or l.more i s.zero);
      left : (i d : ℕ) → l.n ≤ i → get_or l.sums i d ≡ get_or l.fn.sums i d;
    }
