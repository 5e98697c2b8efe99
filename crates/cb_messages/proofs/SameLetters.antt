-- What arrives as it was sent is the letter that was sent.
use Rattle.std.proofs.Common.{◌≡◌, refl, ap, ◌∙◌, arith}
use Rattle.cb_semirings.specs.Arithmetic.{Arithmetic}
use Rattle.cb_matrix.specs.Sparse.{Sparse}
use Rattle.cb_letters.specs.declared.Body.{Body}
use Rattle.cb_letters.specs.declared.Body.TheVariants as body_is
use Rattle.cb_letters.specs.declared.Letter.{Letter}
use Rattle.cb_lists.specs.declared.lists.Columns.{Columns}
use Rattle.cb_lists.proofs.RoundTrip.{stand_for}
use Rattle.cb_messages.specs.declared.heads.Head.{Head}
use Rattle.cb_messages.specs.Messages.{kind_of, origin_of, AreListsOf, IsBodyOf, IsSentAs, IsLetterOf}

same_body : (s : Arithmetic) (b c : Body Sparse) (head : Head) (lists : Columns) → head.kind ≡ kind_of c → head.origin ≡ origin_of c → IsBodyOf s b head lists → AreListsOf s c lists → b ≡ c
same_body s (body_is.Sheet m) (body_is.Sheet n) head lists kind origin is are = ap body_is.Sheet (is.2 ∙ stand_for s n lists are.0 are.1)
same_body s (body_is.Sheet m) (body_is.Lost o) head lists kind origin is are = let k = is.0 in absurd (omega arith)
same_body s (body_is.Sheet m) body_is.Close head lists kind origin is are = let k = is.0 in absurd (omega arith)
same_body s (body_is.Lost p) (body_is.Sheet n) head lists kind origin is are = let k = is.0 in absurd (omega arith)
same_body s (body_is.Lost p) (body_is.Lost o) head lists kind origin is are = ap body_is.Lost (is.1 ∙ origin)
same_body s (body_is.Lost p) body_is.Close head lists kind origin is are = let k = is.0 in absurd (omega arith)
same_body s body_is.Close (body_is.Sheet n) head lists kind origin is are = absurd (omega arith)
same_body s body_is.Close (body_is.Lost o) head lists kind origin is are = absurd (omega arith)
same_body s body_is.Close body_is.Close head lists kind origin is are = refl

-- the letter of a head and lists is the one that is sent as these
pub same_letter : (s : Arithmetic) (l x : Letter Sparse) (head : Head) (lists : Columns) → IsLetterOf s l head lists → IsSentAs s x head lists → l ≡ x
same_letter s l x head lists is was =
    let kind : head.kind ≡ kind_of x.body = ap (λ h. h.kind) was.head_is in
    let origin : head.origin ≡ origin_of x.body = ap (λ h. h.origin) was.head_is in
    let number : l.number ≡ x.number = is.number ∙ ap (λ h. h.number) was.head_is in
    let from : l.from ≡ x.from = is.from ∙ ap (λ h. h.from) was.head_is in
    let to : l.to ≡ x.to = is.to ∙ ap (λ h. h.to) was.head_is in
    let tag : l.tag.0 ≡ x.tag.0 = is.tag ∙ ap (λ h. h.tag) was.head_is in
    let body : l.body ≡ x.body = same_body s l.body x.body head lists kind origin is.body was.lists_are in
    λ i. record { from = from i; to = to i; number = number i; tag = record { 0 = tag i }; body = body i }
