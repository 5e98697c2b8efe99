-- Two kept matrices that are joined, from their matrices.
use Rattle.std.proofs.Common.{◌≡◌, ◌≢◌, inl, inr, refl, sym, subst}
use Rattle.std.specs.Prelude.{Result, Ok, Err}
use Rattle.cb_semirings.specs.Names.{arithmetic_of}
use Rattle.cb_kept.specs.declared.faults.Fault.{Fault}
use Rattle.cb_kept.specs.declared.faults.Fault.TheVariants.{Mixed}
use Rattle.cb_kept.specs.declared.kept.Kept.{Kept}
use Rattle.cb_kept.specs.Kept.{semiring_of, matrix_in}
use Rattle.cb_kept.specs.KeptPanels.{IsKeptJoin, IsPanelJoin, join_faults}
use Rattle.cb_kept.proofs.Firsts.{passed}

pub joined : (front back front' back' : Kept) (r : Result (Unit {0}) Fault) → semiring_of back ≡ semiring_of front → semiring_of front' ≡ semiring_of front → semiring_of back' ≡ semiring_of back
    → IsPanelJoin (arithmetic_of (semiring_of front)) (matrix_in front) (matrix_in back) (matrix_in front') (matrix_in back') r → IsKeptJoin front back front' back' r
unfolding join_faults
joined front back front' back' (Ok x) same f b h = record {
  answer = (passed _ Mixed _ same h.answer.0, record { semiring = f; joined = h.answer.1 });
  rest = record { semiring = b; matrix = h.rest };
  front_stays = tt;
  back_stays = tt;
}
joined front back front' back' (Err e) same f b h = record {
  answer = inr (same, h.answer);
  rest = tt;
  front_stays = record { semiring = f; matrix = h.front_stays };
  back_stays = record { semiring = b; matrix = h.back_stays };
}

-- the same, from what the four are
pub joined_as : (front back front' back' : Kept) (r r' : Result (Unit {0}) Fault) (f b f' b' : Kept) → front ≡ f → back ≡ b → front' ≡ f' → back' ≡ b' → r ≡ r'
    → semiring_of b ≡ semiring_of f → semiring_of f' ≡ semiring_of f → semiring_of b' ≡ semiring_of b
    → IsPanelJoin (arithmetic_of (semiring_of f)) (matrix_in f) (matrix_in b) (matrix_in f') (matrix_in b') r' → IsKeptJoin front back front' back' r
joined_as front back front' back' r r' f b f' b' p q p' q' e same s s' h =
    subst (λ x. IsKeptJoin x back front' back' r) (sym p)
    (subst (λ x. IsKeptJoin f x front' back' r) (sym q)
    (subst (λ x. IsKeptJoin f b x back' r) (sym p')
    (subst (λ x. IsKeptJoin f b f' x r) (sym q')
    (subst (λ x. IsKeptJoin f b f' b' x) (sym e) (joined f b f' b' r' same s s' h)))))

-- two over different semirings stay as they are
pub mixed : (front back front' back' : Kept) (r : Result (Unit {0}) Fault) → front' ≡ front → back' ≡ back → r ≡ Err Mixed → semiring_of back ≢ semiring_of front → IsKeptJoin front back front' back' r
unfolding join_faults
mixed front back front' back' r p q e n =
    subst (λ x. IsKeptJoin front back x back' r) (sym p)
    (subst (λ x. IsKeptJoin front back front x r) (sym q)
    (subst (λ x. IsKeptJoin front back front back x) (sym e)
    (record {
      answer = inl (refl, n);
      rest = tt;
      front_stays = record { semiring = refl; matrix = refl };
      back_stays = record { semiring = refl; matrix = refl };
    })))
