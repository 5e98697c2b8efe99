-- Lists that begin with others.
use Rattle.std.proofs.Common.{◌≡◌, true, List, [], ◌++◌, sym, ap, ◌∙◌, append_assoc}
use Rattle.std.specs.Prelude.{Result, Ok, Err, OnErr, is_err}
use Rattle.std.proofs.lemmas.List.{append-nil}
use mathlib.Core.List.{IsPrefix}

-- a list begins with itself
pub prefix_self : {A : Type 0} (xs : List A) → IsPrefix xs xs
prefix_self xs = ([], append-nil xs)

-- a list that goes on begins with what it began with
pub longer_prefix : {A : Type 0} (xs ys zs more : List A) → IsPrefix xs ys → zs ≡ ys ++ more → IsPrefix xs zs
longer_prefix xs ys zs more p e = (p.0 ++ more, sym (append_assoc xs p.0 more) ∙ ap (λ t. t ++ more) p.1 ∙ sym e)

-- a list begins with what its beginning begins with
pub prefix_of_prefix : {A : Type 0} (xs ys zs : List A) → IsPrefix xs ys → IsPrefix ys zs → IsPrefix xs zs
prefix_of_prefix xs ys zs p q = longer_prefix xs ys zs q.0 p (sym q.1)

-- what holds at Err, where there was an error
pub at_err : {A E : Type 0} (r : Result A E) (P : Type 0) → is_err r ≡ true → OnErr r P → P
at_err (Ok a) P e h = absurd cc
at_err (Err b) P e h = h
