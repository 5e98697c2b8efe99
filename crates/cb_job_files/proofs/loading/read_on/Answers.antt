use Rattle.std.proofs.Common.{◌≡◌, ◌<◌, ◌≤◌, ◌+◌, ◌++◌, ℕ, List, length, take, ap, sym, ◌∙◌, arith, length-append, length-take, length-drop}
use Rattle.cb_job_files.proofs.ReadLemmas.{lengthened, cut_behind}
use Rattle.cb_job_files.proofs.loading.read_on.Goals as goal

pub returns-clause-bytes : goal.returns-clause-bytes
returns-clause-bytes g c =
    let old = c.args.bytes.now.items in
    let short : length old ≤ c.args.end = omega arith in
    let told = c.in_ok-count.ensures in
    let into = c.read_at.new.into in
    let done = c.len-done.result in
    let len : done ≡ length old = omega arith in
    let front : take done c.deref_mut.result.now ≡ old =
    ap (λ n. take n c.deref_mut.result.now) len ∙ ap (take (length old)) (c.deref_mut.ensures.value ∙ c.in_ok-resize.ensures.items) ∙ lengthened old c.args.end _ short in
    let given = c.read_at.auto.into in
    let whole = c.deref_mut.ensures.len in
    let sized : c.resize.new.self.len ≡ c.args.end = c.in_ok-resize.ensures.len in
    let room : done + c.in_ok-count.count ≤ c.resize.new.self.len = omega (arith, told.bound.0, given, whole, sized, length-take {A = ℕ}, length-drop {A = ℕ}) in
    let are : c.truncate.new.self.items ≡ old ++ take c.in_ok-count.count into =
    c.truncate.ensures.items ∙ cut_behind old _ into _ _ done c.in_ok-count.count _ len front told.bound.0 room in
    let count : length (take c.in_ok-count.count into) ≡ c.in_ok-count.count = sym told.bound.1 in
    let both = length-append old (take c.in_ok-count.count into) in
    let fits : length c.truncate.new.self.items ≤ c.args.end = omega (arith, ap length are, both, count, room, len, sized) in
    (take c.in_ok-count.count into, told.bytes, are, count, fits)
