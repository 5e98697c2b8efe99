-- The loop that joins threads.
use Rattle.std.proofs.Common.{◌≡◌, List, ◌∷◌, ◌++◌, [], length, map, Option, Some, None, IfNone, IfSome}
use Rattle.std.specs.List.{AllZip}
use Rattle.std.specs.Option.{option_or}
use Rattle.cb_rank_runs.proofs.LeavingsSoFar.{HasJoined, one_joined, all_joined}

module _ {H A B : Type 0} (f : H → A) (R : A → B → Type 0) where
  -- one more is joined, as long as none was lost
  pub joined_more : {L : Type 0} (lost : Option L) (all : List H) (done done' : List B) (rest rest' : List H) (x : H) (y : B)
      → rest ≡ x ∷ rest' → done' ≡ done ++ y ∷ [] → R (f x) y
      → IfNone lost (HasJoined f R all rest done) → IfNone lost (HasJoined f R all rest' done')
  joined_more (Some n) all done done' rest rest' x y e d r h = tt
  joined_more None all done done' rest rest' x y e d r h = one_joined f R all done done' rest rest' x y e d r h

  pub joined_all : {L : Type 0} (lost : Option L) (all : List H) (done : List B) (rest : List H)
      → lost ≡ None → length rest ≡ 0 → IfNone lost (HasJoined f R all rest done) → AllZip R (map f all) done
  joined_all (Some n) all done rest is none h = cc
  joined_all None all done rest is none h = all_joined f R all done rest none h

-- once one is lost, nothing more is known of the results
pub lost_one : {L : Type 0} (lost new : Option L) (x : L) (J : Type 0) → new ≡ option_or lost (Some x) → IfNone new J
lost_one (Some y) new x J e = rw e tt
lost_one None new x J e = rw e tt

-- and what is kept is the first that was lost
pub first_lost : {L : Type 0} (lost new : Option L) (x : L) (J : Type 0) (P : L → Type 0) → new ≡ option_or lost (Some x) → IfSome lost P → IfNone lost J → (J → P x) → IfSome new P
first_lost (Some y) new x J P e was joined first = rw e was
first_lost None new x J P e was joined first = rw e (first joined)
