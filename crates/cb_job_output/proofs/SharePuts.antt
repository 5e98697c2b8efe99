-- Shares that are put to a sink one after the other.
use Rattle.std.proofs.Common.{◌≡◌, ℕ, ◌+◌, ◌<◌, List, ◌++◌, ◌∷◌, Option, refl, ap, sym, ◌∙◌, append_assoc, take, drop, length, get_or, [], append-nil, length-append, arith}
use Rattle.std.proofs.lemmas.List.Concat.{flat_map-append}
use Rattle.std.proofs.lemmas.List.{take-append-drop, take_more}
use Rattle.std.specs.Prelude.{All}
use Rattle.std.specs.Io.KnownBytes.{Appends}
use Rattle.cb_job_output.specs.Rounds.{joined}
use Rattle.cb_job_ends.specs.Sinks.{AppendsPrefix}
use Rattle.cb_job_ends.proofs.SinkLemmas.{prefix_page}

-- one more share is joined
pub joined_more : (shares : List (List ℕ)) (i : ℕ) (d : List ℕ) → i < length shares → joined (take (i + 1) shares) ≡ joined (take i shares) ++ get_or shares i d
joined_more shares i d l =
    ap joined (take_more shares i d l) ∙ flat_map-append (λ (share : List ℕ). share) (take i shares) (get_or shares i d ∷ [])
    ∙ ap (λ x. joined (take i shares) ++ x) (append-nil (get_or shares i d))

-- and the others follow
pub joined_parts : (shares : List (List ℕ)) (i : ℕ) → joined (take i shares) ++ joined (drop i shares) ≡ joined shares
joined_parts shares i = sym (flat_map-append (λ (share : List ℕ). share) (take i shares) (drop i shares)) ∙ ap joined (take-append-drop i shares)

-- a share is added at the end
pub joined_push : (shares : List (List ℕ)) (share : List ℕ) → joined (shares ++ share ∷ []) ≡ joined shares ++ share
joined_push shares share = flat_map-append (λ (part : List ℕ). part) shares (share ∷ []) ∙ ap (λ x. joined shares ++ x) (append-nil share)

-- shares that each have some bytes have some, if there is one
pub some_joined : (shares : List (List ℕ)) → 0 < length shares → All (λ (share : List ℕ). 0 < length share) shares → 0 < length (joined shares)
some_joined [] l h = absurd (omega (arith, l))
some_joined (x ∷ xs) l h =
    let first : 0 < length x = h 0 x (omega arith) in
    let both = length-append x (joined xs) in
    omega (arith, first, both)

module _ (a b c : Option (List ℕ)) (shares : List (List ℕ)) (i : ℕ) (d : List ℕ) (page : List ℕ) where
  -- a beginning of a share more is one of all
  pub share_begun : i < length shares → page ≡ get_or shares i d → Appends a b (joined (take i shares)) → AppendsPrefix b c page → AppendsPrefix a c (joined shares)
  share_begun l e p q =
      let rest = joined (drop (i + 1) shares) in
      let front : joined (take i shares) ++ page ≡ joined (take (i + 1) shares) = ap (λ x. joined (take i shares) ++ x) e ∙ sym (joined_more shares i d l) in
      prefix_page a b c (joined (take i shares)) page (page ++ rest) rest (joined shares) p q refl
      (sym (append_assoc (joined (take i shares)) page rest) ∙ ap (λ x. x ++ rest) front ∙ joined_parts shares (i + 1))
