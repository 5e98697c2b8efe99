-- The half that a rank wants, by the kind that it names.
use Rattle.std.proofs.Common.{◌≡◌, ℕ, refl, ap}
use Rattle.std.specs.Prelude.{Option, Some, None}
use Rattle.cb_matrix.specs.Sparse.{Extent}
use Rattle.cb_letters.specs.declared.Tag.{Tag}
use Rattle.cb_plan.specs.declared.acts.Op.{Op}
use Rattle.cb_plan.specs.declared.acts.Half.{Half}
use Rattle.cb_plan.specs.declared.acts.Half.TheVariants as half_is
use Rattle.cb_rank.specs.declared.wants.Want.TheVariants as want_is
use Rattle.cb_rank.specs.Ranks.{want_of, IsShut}

-- a rank that wants to post to k has a Post to k next
pub wants_post_to : (h : Option Half) (k : ℕ) → want_of h ≡ want_is.Post k → (tag : Tag) × (slot : ℕ) × (h ≡ Some (half_is.Post k tag slot))
wants_post_to (Some (half_is.Post to tag slot)) k w = let same : to ≡ k = cc in (tag, slot, ap (λ n. Some (half_is.Post n tag slot)) same)
wants_post_to _ k w = cc

-- a rank that wants to shut a lane has a Shut next
pub wants_shut : (h : Option Half) → IsShut (want_of h) → (to : ℕ) × (h ≡ Some (half_is.Shut to))
wants_shut (Some (half_is.Shut to)) w = (to, refl)
wants_shut _ w = absurd w

-- a rank that wants to shut the lane to k has that Shut next
pub wants_shut_to : (h : Option Half) (k : ℕ) → want_of h ≡ want_is.Shut k → h ≡ Some (half_is.Shut k)
wants_shut_to (Some (half_is.Shut to)) k w = let same : to ≡ k = cc in ap (λ n. Some (half_is.Shut n)) same
wants_shut_to _ k w = cc

-- a rank that wants to work has a Work next
pub wants_work : (h : Option Half) → want_of h ≡ want_is.Work → (op : Op) × (h ≡ Some (half_is.Work op))
wants_work (Some (half_is.Work op)) w = (op, refl)
wants_work _ w = cc

-- a rank that wants a letter from k has a Take from k next
pub wants_take : (h : Option Half) (k : ℕ) → want_of h ≡ want_is.Take k → (tag : Tag) × (into : ℕ) × (shape : Extent) × (h ≡ Some (half_is.Take k tag into shape))
wants_take (Some (half_is.Take from tag into shape)) k w = let same : from ≡ k = cc in (tag, into, shape, ap (λ n. Some (half_is.Take n tag into shape)) same)
wants_take _ k w = cc

-- a rank that wants the end of the lane from k has that End next
pub wants_end : (h : Option Half) (k : ℕ) → want_of h ≡ want_is.End k → h ≡ Some (half_is.End k)
wants_end (Some (half_is.End from)) k w = let same : from ≡ k = cc in ap (λ n. Some (half_is.End n)) same
wants_end _ k w = cc

-- a rank that wants nothing has no half left
pub wants_nothing : (h : Option Half) → want_of h ≡ want_is.Done → h ≡ None
wants_nothing None w = refl
wants_nothing (Some (half_is.End from)) w = cc
wants_nothing _ w = cc
