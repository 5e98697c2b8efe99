-- Worked plans, computed: the product of two matrices of 2 by 2, and the slots of the stages.
use Rattle.std.specs.Prelude.{◌≡◌, ℕ, ◌+◌, List, [], ◌∷◌, length, map, None, sum, refl}
use Rattle.std.specs.List.{range_with_len}
use Rattle.cb_matrix.specs.Sparse.{Extent}
use Rattle.cb_plan.specs.declared.acts.Act.{Act}
use Rattle.cb_plan.specs.declared.acts.Start.{Start}
use Rattle.cb_plan.specs.declared.acts.Act.TheVariants as act_is
use Rattle.cb_plan.specs.Checks.{plan_fault, fault_from}
use Rattle.cb_plan.specs.Programs.{project}
use Rattle.cb_plan_parts.specs.PlanParts.{operand_starts}
use Rattle.cb_plan_summa.specs.Summa.{left_slot, right_slot, summa_acts, summa_masked_acts, factors, masked_factors}

abbrev two_by_two : Extent
two_by_two = record { rows = 2; cols = 2 }

-- the slots of the first stages: none is another's, and none is the mask's slot 7
left_slots : map left_slot (range_with_len 0 6) ≡ 3 ∷ 5 ∷ 8 ∷ 10 ∷ 12 ∷ 14 ∷ []
left_slots = refl

right_slots : map right_slot (range_with_len 0 6) ≡ 4 ∷ 6 ∷ 9 ∷ 11 ∷ 13 ∷ 15 ∷ []
right_slots = refl

-- those of the last stage on the largest grid
last_slots : (left_slot 63 ≡ 130) × (right_slot 63 ≡ 131)
last_slots = (refl, refl)

-- how many acts there are on a grid of a side
abbrev acts_on : ℕ → ℕ
acts_on q = length (summa_acts q two_by_two two_by_two)

acts_on_grid_2 : acts_on 2 ≡ 40
acts_on_grid_2 = refl

acts_on_grid_4 : acts_on 4 ≡ 448
acts_on_grid_4 = refl

acts_on_grid_5 : acts_on 5 ≡ 1000
acts_on_grid_5 = refl

-- each move and each close of a lane posts a letter, which is taken: these are two halves, and work is one
abbrev letters : Act → ℕ
letters (act_is.Move from to tag slot into) = 1
letters (act_is.Work rank op) = 0
letters (act_is.Shut from to) = 1

abbrev letters_on : ℕ → ℕ
letters_on q = sum (map letters (summa_acts q two_by_two two_by_two))

abbrev halves_on : ℕ → ℕ
halves_on q = acts_on q + letters_on q

letters_on_grid_4 : letters_on 4 ≡ 336
letters_on_grid_4 = refl

halves_on_grid_4 : halves_on 4 ≡ 784
halves_on_grid_4 = refl

letters_on_grid_5 : letters_on 5 ≡ 800
letters_on_grid_5 = refl

halves_on_grid_5 : halves_on 5 ≡ 1800
halves_on_grid_5 = refl

letters_on_grid_6 : letters_on 6 ≡ 1620
letters_on_grid_6 = refl

halves_on_grid_6 : halves_on 6 ≡ 3564
halves_on_grid_6 = refl

masked_acts_on_grid_2 : length (summa_masked_acts 2 two_by_two two_by_two) ≡ 44
masked_acts_on_grid_2 = refl

-- a grid of side 2: the blocks with which its ranks start, without and with a mask
abbrev starts_on_grid_2 : List Start
starts_on_grid_2 = operand_starts 2 (factors two_by_two two_by_two)

abbrev masked_starts_on_grid_2 : List Start
masked_starts_on_grid_2 = operand_starts 2 (masked_factors two_by_two two_by_two)

-- how many halves each of its ranks has: 60 in all, and 64 with a mask
abbrev halves_by_rank : List Start → List Act → List ℕ
halves_by_rank starts acts = map (λ r. length (project starts acts r)) (range_with_len 0 4)

halves_on_grid_2 : halves_by_rank starts_on_grid_2 (summa_acts 2 two_by_two two_by_two) ≡ 15 ∷ 15 ∷ 15 ∷ 15 ∷ []
halves_on_grid_2 = refl

masked_halves_on_grid_2 : halves_by_rank masked_starts_on_grid_2 (summa_masked_acts 2 two_by_two two_by_two) ≡ 16 ∷ 16 ∷ 16 ∷ 16 ∷ []
masked_halves_on_grid_2 = refl

passes_on_grid_2 : plan_fault 4 starts_on_grid_2 (summa_acts 2 two_by_two two_by_two) ≡ None
unfolding fault_from
passes_on_grid_2 = refl

masked_passes_on_grid_2 : plan_fault 4 masked_starts_on_grid_2 (summa_masked_acts 2 two_by_two two_by_two) ≡ None
unfolding fault_from
masked_passes_on_grid_2 = refl
