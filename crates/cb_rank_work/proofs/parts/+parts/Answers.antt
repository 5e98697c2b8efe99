use Rattle.std.proofs.Common.{rules, ◌≡◌, ◌++◌, sym, subst}
use Rattle.cb_rank_work.specs.FactorSlots.{HasColumnsOf}
use Rattle.cb_rank_work.proofs.PartsAppended.{parts_shape, parts_are_matrix, parts_made}
use Rattle.cb_rank_work.proofs.parts.+parts.Goals as goal

pub make_parts-append-requires-clause-shape : goal.make_parts-append-requires-clause-shape
make_parts-append-requires-clause-shape g t c =
    let s = g.S.Semiring.arithmetic in
    let laws = (g.met.S.Semiring g.world.𝓛 g.world.𝓜 g.world.𝓡 ((λ s x. x), (λ x. x), (λ x. x), λ x. x)).is_semiring in
    let slots = c.args.store.now in
    let sum = c.args.sum.now in
    let ps = c.args.products.now in
    let xs = c.split_at.result.0.now in
    let ys = c.split_at.result.1.now in
    let all : c.args.columns.now ≡ xs ++ ys = c.split_at.ensures.by_index.0 in
    let first : HasColumnsOf s slots sum ps xs c.in_ok-front.front = search rules in
    let last : HasColumnsOf s slots sum ps ys c.in_ok-back.back = search rules in
    parts_shape s laws slots sum c.shape-shape.ensures.matrix ps c.args.columns.now c.requires xs ys all c.in_ok-front.front c.in_ok-back.back first last

pub make_parts-append-requires-clause-matrix : goal.make_parts-append-requires-clause-matrix
make_parts-append-requires-clause-matrix g t c =
    let s = g.S.Semiring.arithmetic in
    let laws = (g.met.S.Semiring g.world.𝓛 g.world.𝓜 g.world.𝓡 ((λ s x. x), (λ x. x), (λ x. x), λ x. x)).is_semiring in
    let slots = c.args.store.now in
    let sum = c.args.sum.now in
    let ps = c.args.products.now in
    let xs = c.split_at.result.0.now in
    let ys = c.split_at.result.1.now in
    let all : c.args.columns.now ≡ xs ++ ys = c.split_at.ensures.by_index.0 in
    let first : HasColumnsOf s slots sum ps xs c.in_ok-front.front = search rules in
    let last : HasColumnsOf s slots sum ps ys c.in_ok-back.back = search rules in
    parts_are_matrix s laws slots sum c.shape-shape.ensures.matrix ps c.args.columns.now c.requires xs ys all c.in_ok-front.front c.in_ok-back.back first last

pub make_parts-returns : goal.make_parts-returns
make_parts-returns g t c =
    let s = g.S.Semiring.arithmetic in
    let laws = (g.met.S.Semiring g.world.𝓛 g.world.𝓜 g.world.𝓡 ((λ s x. x), (λ x. x), (λ x. x), λ x. x)).is_semiring in
    let slots = c.args.store.now in
    let sum = c.args.sum.now in
    let ps = c.args.products.now in
    let xs = c.split_at.result.0.now in
    let ys = c.split_at.result.1.now in
    let all : c.args.columns.now ≡ xs ++ ys = c.split_at.ensures.by_index.0 in
    let first : HasColumnsOf s slots sum ps xs c.in_ok-front.front = search rules in
    let last : HasColumnsOf s slots sum ps ys c.in_ok-back.back = search rules in
    subst (HasColumnsOf s slots sum ps c.args.columns.now) (sym c.in_ok-append.ensures.ok) (parts_made s laws slots sum c.shape-shape.ensures.matrix ps c.args.columns.now c.requires xs ys all c.in_ok-front.front c.in_ok-back.back first last)
