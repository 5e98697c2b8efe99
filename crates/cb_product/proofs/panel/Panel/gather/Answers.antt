use Rattle.std.proofs.Common.{◌≡◌, ◌+◌, ◌-◌, ◌<◌, [], ◌∷◌, ◌++◌, length, get_or, ap, ◌∙◌, arith}
use Rattle.std.proofs.lemmas.List.{get_or_push, length_push}
use Rattle.std.specs.Prelude.{vec_len, vec_capacity}
use Rattle.cb_product.specs.declared.panel.Panel.{Panel}
use Rattle.cb_product.proofs.Gathered.{gathered_term, gathered_absent}
use Rattle.cb_product.proofs.panel.Panel.gather.Goals as goal
use Rattle.cb_product.proofs.panel.Panel.gather.Goals.{then-at-end, else-at-end}

pub loop-n-preserved : goal.loop-n-preserved
loop-n-preserved g c =
    let s = g.S.Semiring.arithmetic in
    let laws = g.met.S.Semiring.is_semiring in
    let r = c.requires in
    let a = c.args.left.now in
    let rows = c.args.rows.now in
    let values = c.args.values.now in
    let old : Panel = c.loop-n.self in
    let inv = c.loop-n.invariant in
    let n = c.loop-n.n in
    let new : Panel = record { terms = c.if-at-end.self.terms; places = c.push_reserved-in-loop-n.new.self; first = c.if-at-end.self.first; most = c.if-at-end.self.most } in
    let k : n - c.args.from + 1 ≡ n + 1 - c.args.from = (let l = inv.order in omega arith) in
    let here : old.first + (n - c.args.from) ≡ n = (let l = inv.order in let f = inv.first in omega arith) in
    let inside : n < length rows = (let l = c.loop-n-test.true in omega arith) in
    let longer : new.places.items ≡ old.places.items ++ length new.terms.items ∷ [] → length new.places.items ≡ n + 1 - c.args.from + 1 = λ e. ap length e ∙ length_push old.places.items (length new.terms.items) ∙ (let m = inv.count in omega arith) in
    let end : new.places.items ≡ old.places.items ++ length new.terms.items ∷ [] → get_or new.places.items (n + 1 - c.args.from) 0 ≡ length new.terms.items = λ e. ap (λ ps. get_or ps (n + 1 - c.args.from) 0) e ∙ get_or_push old.places.items (length new.terms.items) 0 (n + 1 - c.args.from) (inv.count ∙ k) in
    let here_places : c.push_reserved-in-loop-n.new.self.items ≡ c.if-at-end.self.places.items ++ length new.terms.items ∷ [] = c.push_reserved-in-loop-n.ensures.items ∙ ap (λ x. c.if-at-end.self.places.items ++ x ∷ []) (omega (arith, c.len.ensures)) in
    elim c.if-at-end.branch [
      | then-at-end w ↦
          let e = w.term_of-term.ensures in
          let places : new.places.items ≡ old.places.items ++ length new.terms.items ∷ [] = here_places ∙ ap (λ (p : Panel). p.places.items ++ length new.terms.items ∷ []) w.self-is in
          record {
            gathered = gathered_term s laws a r.matrix rows values r.lengths r.values old new (n - c.args.from) n c.range-at.result.0 c.range-at.result.1 here inside c.range-at.ensures.entries
                (ap (λ (p : Panel). p.first) w.self-is) places inv.count inv.end inv.gathered w.term_of-term.result
                (ap (λ (p : Panel). p.terms.items) w.self-is ∙ w.push_reserved-then-at-end.ensures.items) (e.row ∙ ap (λ rs. get_or rs c.range-at.result.0 0) c.row_numbers-left_rows.ensures) e.at e.end e.scale w.if-at-end.true c.range-at.ensures.within;
            first = ap (λ (p : Panel). p.first) w.self-is ∙ inv.first;
            order = omega arith;
            terms_room = (let len = ap (λ (p : Panel). vec_len p.terms) w.self-is ∙ w.push_reserved-then-at-end.ensures.len in let same = ap (λ (p : Panel). vec_capacity p.terms) w.self-is ∙ w.push_reserved-then-at-end.ensures.capacity in omega (arith, len, same, inv.terms_room, c.loop-n-test.true));
            places_room = (let len = c.push_reserved-in-loop-n.ensures.len ∙ ap (λ k. k + 1) (ap (λ (p : Panel). vec_len p.places) w.self-is) in let same = c.push_reserved-in-loop-n.ensures.capacity ∙ ap (λ (p : Panel). vec_capacity p.places) w.self-is in omega (arith, len, same, inv.places_room, c.loop-n-test.true));
            count = longer places;
            end = end places;
          }
      | else-at-end w ↦
          let places : new.places.items ≡ old.places.items ++ length new.terms.items ∷ [] = here_places ∙ ap (λ (p : Panel). p.places.items ++ length new.terms.items ∷ []) w.self-is in
          record {
            gathered = gathered_absent s laws a r.matrix rows values r.lengths r.values old new (n - c.args.from) n c.range-at.result.0 c.range-at.result.1 here inside c.range-at.ensures.entries
                (ap (λ (p : Panel). p.first) w.self-is) places inv.count inv.end inv.gathered (ap (λ (p : Panel). p.terms.items) w.self-is) w.if-at-end.false;
            first = ap (λ (p : Panel). p.first) w.self-is ∙ inv.first;
            order = omega arith;
            terms_room = (let len = ap (λ (p : Panel). vec_len p.terms) w.self-is in let same = ap (λ (p : Panel). vec_capacity p.terms) w.self-is in omega (arith, len, same, inv.terms_room, c.loop-n-test.true));
            places_room = (let len = c.push_reserved-in-loop-n.ensures.len ∙ ap (λ k. k + 1) (ap (λ (p : Panel). vec_len p.places) w.self-is) in let same = c.push_reserved-in-loop-n.ensures.capacity ∙ ap (λ (p : Panel). vec_capacity p.places) w.self-is in omega (arith, len, same, inv.places_room, c.loop-n-test.true));
            count = longer places;
            end = end places;
          }
    ]
