-- An example shows that the closing law isn't vacuous: two ranks that ran by themselves. Rank 0 was refused memory for the copy that
-- it posts.
use Rattle.std.proofs.Common.{◌≡◌, ◌≢◌, ℕ, zero, suc, ◌<◌, List, [], ◌∷◌, get_or, replicate, refl, ap, arith, inl}
use Rattle.std.specs.Prelude.{slice_set}
use Rattle.cb_semirings.specs.Arithmetic.{Arithmetic}
use Rattle.cb_matrix.specs.Sparse.{Sparse, Extent}
use Rattle.cb_matrix.specs.Values.{empty_matrix}
use Rattle.cb_letters.specs.declared.Tag.{Tag}
use Rattle.cb_letters.specs.declared.Letter.{Letter}
use Rattle.cb_letters.specs.declared.Body.TheVariants as body_is
use Rattle.cb_letters.specs.Letters.{mark_tag}
use Rattle.cb_plan.specs.declared.acts.Act.TheVariants as act_is
use Rattle.cb_plan.specs.declared.acts.Op.TheVariants as op_is
use Rattle.cb_plan.specs.declared.stores.Slot.{Slot}
use Rattle.cb_plan.specs.declared.stores.Slot.TheVariants as slot_is
use Rattle.cb_plan.specs.Checks.{fault_from, started}
use Rattle.cb_plan.specs.Meaning.{one}
use Rattle.cb_plan.specs.Plans.{CheckedView, IsChecked}
use Rattle.cb_plan.specs.Programs.{project}
use Rattle.cb_plan.specs.Stores.{Fits, shapes_of, sheet_of, is_lost}
use Rattle.cb_plan.proofs.Cells.{blank_is_table, blank_cell}
use Rattle.cb_plan.proofs.Effects.{same_state}
use Rattle.cb_rank.specs.Halves.{Course, RunsTo, with_letter, slot_at}
use Rattle.cb_rank_runs.specs.Runs.{fresh}
use Rattle.cb_rank_runs.proofs.ClosingLaw.{AreFinished, closes}
use mathlib.Core.List.{IsPrefix}

abbrev shape : Extent
shape = record { rows = 1; cols = 2 }

abbrev tag : Tag
tag = record { 0 = 7 }

abbrev plan : CheckedView
plan = record { ranks = 2; starts = []; acts = act_is.Work 0 (op_is.Zero 0 shape) ∷ act_is.Move 0 1 tag 0 3 ∷ act_is.Shut 0 1 ∷ act_is.Shut 1 0 ∷ [] }

abbrev store : List (Slot Sparse)
store = replicate 256 slot_is.Empty

abbrev first : List (List (Slot Sparse))
first = replicate 2 store

abbrev refused : Letter Sparse
refused = record { from = 0; to = 1; number = 0; tag = tag; body = body_is.Lost 0 }

abbrev close : ℕ → ℕ → ℕ → Letter Sparse
close from to n = record { from = from; to = to; number = n; tag = mark_tag; body = body_is.Close }

abbrev nothing : ℕ → List (Letter Sparse)
nothing j = []

abbrev a1 : Course
a1 = record { slots = slice_set store 0 (slot_is.Sheet (empty_matrix shape)); refusals = 0; posted = nothing; taken = nothing }

abbrev a2 : Course
a2 = record a1 { refusals = 1; posted = with_letter nothing 1 refused }

abbrev a3 : Course
a3 = record a2 { posted = with_letter (with_letter nothing 1 refused) 1 (close 0 1 1) }

abbrev a4 : Course
a4 = record a3 { taken = with_letter nothing 1 (close 1 0 0) }

abbrev b1 : Course
b1 = record { slots = slice_set store 3 (slot_is.Lost 0); refusals = 0; posted = nothing; taken = with_letter nothing 0 refused }

abbrev b2 : Course
b2 = record b1 { taken = with_letter (with_letter nothing 0 refused) 0 (close 0 1 1) }

abbrev b3 : Course
b3 = record b2 { posted = with_letter nothing 0 (close 1 0 0) }

abbrev courses : ℕ → Course
courses zero = a4
courses (suc r) = b3

checked : IsChecked plan
unfolding fault_from
checked = record { no_fault = refl; few = omega arith; exist = λ k d l. absurd (omega arith); once = λ i j d l m. absurd (omega arith) }

fits : Fits 2 [] first
fits = record {
  table = blank_is_table slot_is.Empty 2 256;
  shapes = same_state (shapes_of first) (started []) (λ r n. ap (λ x. one (λ (m : Sparse). m.shape) (sheet_of x)) (blank_cell slot_is.Empty 2 256 r n));
  none_lost = λ r n. ap is_lost (blank_cell slot_is.Empty 2 256 r n);
}

runs : (s : Arithmetic) (r : ℕ) → r < 2 → RunsTo s r (project [] plan.acts r) (fresh (get_or first r [])) (courses r)
runs s zero l = (a1, (slot_is.Sheet (empty_matrix shape), inl (refl, refl), refl), (a2, (body_is.Lost 0, (refl, refl), refl), (a3, refl, (a4, (close 1 0 0, refl, refl, refl), refl))))
runs s (suc zero) l = (b1, (refused, refl, tt, refl), (b2, (close 0 1 1, refl, refl, refl), (b3, refl, refl)))
runs s (suc (suc r)) l = absurd (omega arith)

prefixes : (f t : ℕ) → f < 2 → t < 2 → f ≢ t → IsPrefix ((courses t).taken f) ((courses f).posted t)
prefixes zero zero l m ne = absurd (ne refl)
prefixes zero (suc zero) l m ne = ([], refl)
prefixes (suc zero) zero l m ne = ([], refl)
prefixes (suc zero) (suc zero) l m ne = absurd (ne refl)
prefixes (suc (suc f)) t l m ne = absurd (omega arith)
prefixes f (suc (suc t)) l m ne = absurd (omega arith)

pub example_finishes : (s : Arithmetic) → AreFinished s plan first courses
example_finishes s = closes s plan first courses checked fits (runs s) prefixes

-- so slot 3 of rank 1 is lost, as rank 0 was refused memory once
pub example_lost : (slot_at (courses 1).slots 3 ≡ slot_is.Lost 0) × ((courses 0).refusals ≡ 1)
example_lost = (refl, refl)
