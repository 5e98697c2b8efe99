-- The loop that takes what each rank left.
use Rattle.std.proofs.Common.{◌≡◌, List, [], ◌∷◌, ◌++◌, length, map, refl, sym, ◌∙◌, ap, subst, append_assoc, append-nil, arith}
use Rattle.std.specs.List.{AllZip}
use Rattle.cb_semirings.specs.Arithmetic.{Arithmetic}
use Rattle.cb_rank_runs.specs.Crews.{Member, Ran}
use Rattle.cb_rank_runs.specs.NamedRanks.{IsFirstGone}

map_both : {H A : Type 0} (f : H → A) (xs ys : List H) → map f (xs ++ ys) ≡ map f xs ++ map f ys
map_both f [] ys = refl
map_both f (x ∷ xs) ys = ap (λ zs. f x ∷ zs) (map_both f xs ys)

module _ {H A B : Type 0} (f : H → A) (R : A → B → Type 0) where
  -- these are the results of all but the rest
  pub record HasJoined (all rest : List H) (done : List B) : Type 0 where
    pub before : List H
    pub both : before ++ rest ≡ all
    pub each : AllZip R (map f before) done

  -- nothing is joined yet
  pub none_joined : (all rest : List H) (done : List B) → rest ≡ all → done ≡ [] → HasJoined all rest done
  none_joined all rest done same none = record { before = []; both = same; each = rw none tt }

  zip_more : (xs : List H) (ys : List B) (x : H) (y : B) → AllZip R (map f xs) ys → R (f x) y → AllZip R (map f (xs ++ x ∷ [])) (ys ++ y ∷ [])
  zip_more [] [] x y h r = (r, tt)
  zip_more [] (b ∷ ys) x y h r = absurd h
  zip_more (a ∷ xs) [] x y h r = absurd h
  zip_more (a ∷ xs) (b ∷ ys) x y h r = (h.0, zip_more xs ys x y h.1 r)

  -- one more is joined
  pub one_joined : (all : List H) (done done' : List B) (rest rest' : List H) (x : H) (y : B)
      → rest ≡ x ∷ rest' → done' ≡ done ++ y ∷ [] → R (f x) y → HasJoined all rest done → HasJoined all rest' done'
  one_joined all done done' rest rest' x y e d r h = record {
    before = h.before ++ x ∷ [];
    both = append_assoc h.before (x ∷ []) rest' ∙ ap (λ zs. h.before ++ zs) (sym e) ∙ h.both;
    each = rw d (zip_more h.before done x y h.each r);
  }

  -- all are joined
  pub all_joined : (all : List H) (done : List B) (rest : List H) → length rest ≡ 0 → HasJoined all rest done → AllZip R (map f all) done
  all_joined all done [] none h = subst (λ xs. AllZip R (map f xs) done) (sym (append-nil h.before) ∙ h.both) h.each
  all_joined all done (x ∷ xs) none h = absurd (omega arith)

-- one that comes back without its rank is the first, if none did before it
pub first_gone : {H : Type 0} (f : H → Member) (s : Arithmetic) (all rest rest' : List H) (x : H) (done : List Member) → rest ≡ x ∷ rest' → HasJoined f (Ran s) all rest done → IsFirstGone s (map f all) (f x).1.me
first_gone f s all rest rest' x done e h = record {
  before = map f h.before;
  rank = f x;
  after = map f rest';
  all = sym (map_both f h.before (x ∷ rest')) ∙ ap (λ zs. map f (h.before ++ zs)) (sym e) ∙ ap (λ zs. map f zs) h.both;
  left = done;
  ran = h.each;
  me = refl;
}
