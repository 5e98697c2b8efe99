use Rattle.std.proofs.Common.{◌≡◌, ◌+◌, ◌-◌, ◌≤◌, length, get_or}
use Rattle.std.specs.Prelude.{vec_len, vec_capacity}
use Rattle.cb_product.specs.Gathered.{AreGathered}
use Rattle.cb_product.proofs.panel.Panel.gather.Given as goal

abbrev pub invariant-loop-n : goal.invariant-loop-n
invariant-loop-n g l =
    let s = g.S.Semiring.arithmetic in
    record {
      gathered : AreGathered s l.left l.rows l.values l.self;
      first : l.self.first ≡ l.from;
      order : l.from ≤ l.n;
      terms_room : vec_len l.self.terms + (l.last - l.n) ≤ vec_capacity l.self.terms;
      places_room : vec_len l.self.places + (l.last - l.n) ≤ vec_capacity l.self.places;
      count : length l.self.places.items ≡ l.n - l.from + 1;
      end : get_or l.self.places.items (l.n - l.from) 0 ≡ length l.self.terms.items;
    }
