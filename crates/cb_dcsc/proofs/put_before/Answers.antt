use Rattle.std.proofs.Common.{arith, ◌≡◌, ℕ, ◌-◌, ◌+◌, List, ◌++◌, length, length-append, take, drop, ap, sym, ◌∙◌}
use Rattle.std.specs.List.{copy_within}
use Rattle.std.proofs.lemmas.List.{drop_at, length-take-le, take_all, take_at}
use Rattle.std.proofs.lemmas.List.Edits.{length-paste, take-paste}
use Rattle.cb_dcsc.proofs.put_before.Goals as goal

-- a list with items behind it, moved to the place after as many items
moved : {X : Type 0} (old items : List X) → copy_within (old ++ items) 0 (length old) (length items) ≡ take (length items) (old ++ items) ++ old
moved old items =
    let k = length items in
    let n = length old - 0 in
    let both = old ++ items in
    let whole = length-append old items in
    let long = length-paste both k both n (omega (arith, whole)) (omega (arith, whole)) in
    sym (take_all (k + n) (copy_within both 0 (length old) k) (omega (arith, long, whole)))
    ∙ take-paste both k both n (omega (arith, whole)) (omega (arith, whole))
    ∙ ap (λ xs. take k both ++ xs) (take_at old items n (omega arith))

-- the same, with the items written over its front
put_is : {X : Type 0} (old items front held moved_list : List X) (len : ℕ) → held ≡ moved_list → front ≡ items ++ drop (length items) held
    → moved_list ≡ copy_within (old ++ items) 0 (length old) (length items) → len ≡ length moved_list
    → take len (front ++ drop (length front) moved_list) ≡ items ++ old
put_is old items front held moved_list len same front_is is long =
    let k = length items in
    let whole = length-append old items in
    let all = is ∙ moved old items in
    let first : length (take k (old ++ items)) ≡ k = length-take-le k (old ++ items) (omega (arith, whole)) in
    let last : drop k held ≡ old = ap (drop k) (same ∙ all) ∙ drop_at (take k (old ++ items)) old k first in
    let new = front_is ∙ ap (λ xs. items ++ xs) last in
    let enough = ap length all ∙ length-append (take k (old ++ items)) old in
    let count = ap length new ∙ length-append items old in
    take_at front (drop (length front) moved_list) len (omega (arith, enough, count, long, first)) ∙ new

pub returns : goal.returns
returns g c =
    let old = c.args.list.now.items in
    let items = c.args.items.now in
    let len : c.len-len.result ≡ length old = c.len-len.ensures ∙ c.args.list.now.ok.0 in
    let is = c.copy_within.ensures.items ∙ ap (λ xs. copy_within xs 0 c.len-len.result (length items)) c.extend_reserved.ensures ∙ ap (λ n. copy_within (old ++ items) 0 n (length items)) len in
    put_is old items _ _ _ c.copy_within.new.self.len c.deref_mut.ensures.value c.write_front.ensures is c.copy_within.new.self.ok.0
