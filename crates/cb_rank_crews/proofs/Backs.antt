-- What comes back of a crew's workers.
use Rattle.std.proofs.Common.{◌≡◌, ℕ, List, [], ◌∷◌, ◌++◌, map, refl, sym, ◌∙◌, ap, subst, append_assoc, Option, Some, None, IfNone, IfSome}
use Rattle.std.specs.List.{AllZip}
use Rattle.cb_semirings.specs.Arithmetic.{Arithmetic}
use Rattle.cb_rank_runs.specs.Crews.{Member, Ran}
use Rattle.cb_rank_runs.specs.NamedRanks.{IsFirstGone}
use Rattle.cb_rank_crews.specs.Backs.{IsNext}

image_more : {A B : Type 0} (g : B → A) (ys : List B) (y : B) (rest : List A) → map g (ys ++ y ∷ []) ++ rest ≡ map g ys ++ g y ∷ rest
image_more g [] y rest = refl
image_more g (z ∷ ys) y rest = ap (λ zs. g z ∷ zs) (image_more g ys y rest)

-- one more came back
pub one_back : {A B H : Type 0} (f : H → A) (g : B → A) (done new : List B) (y : B) (x : H) (rest left : List H) (all : List A)
    → new ≡ done ++ y ∷ [] → g y ≡ f x → left ≡ x ∷ rest → map g done ++ map f left ≡ all → map g new ++ map f rest ≡ all
one_back f g done new y x rest left all more same next so_far =
    ap (λ zs. map g zs ++ map f rest) more ∙ image_more g done y (map f rest) ∙ ap (λ z. map g done ++ z ∷ map f rest) same ∙ ap (λ zs. map g done ++ map f zs) (sym next) ∙ so_far

-- the first that is gone among those that were given is the first among all
pub gone_of_given : (s : Arithmetic) (crew before : List Member) (number r : ℕ) → IsNext crew before number → IsFirstGone s before r → IsFirstGone s crew r
gone_of_given s crew before number r next gone = record {
  before = gone.before;
  rank = gone.rank;
  after = gone.after ++ next.rank ∷ next.after;
  all = sym (append_assoc gone.before (gone.rank ∷ gone.after) (next.rank ∷ next.after)) ∙ ap (λ ms. ms ++ next.rank ∷ next.after) gone.all ∙ next.all;
  left = gone.left;
  ran = gone.ran;
  me = gone.me;
}

-- so it is, whether or not all were given
pub gone_among : (s : Arithmetic) (lost : Option ℕ) (crew before back : List Member) (r : ℕ) → back ≡ before → IfNone lost (before ≡ crew) → IfSome lost (IsNext crew before) → IsFirstGone s back r → IsFirstGone s crew r
gone_among s None crew before back r same all next gone = subst (λ ms. IsFirstGone s ms r) (same ∙ all) gone
gone_among s (Some number) crew before back r same all next gone = gone_of_given s crew before number r next (subst (λ ms. IsFirstGone s ms r) same gone)

-- if all that were given ran, the next is the first that is gone
pub gone_is_next : (s : Arithmetic) (crew before back left : List Member) (number : ℕ) → back ≡ before → IsNext crew before number → AllZip (Ran s) back left → IsFirstGone s crew number
gone_is_next s crew before back left number same next ran = record {
  before = before;
  rank = next.rank;
  after = next.after;
  all = next.all;
  left = left;
  ran = subst (λ ms. AllZip (Ran s) ms left) same ran;
  me = next.me;
}
