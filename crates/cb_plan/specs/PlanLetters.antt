-- The letters of a plan on each lane, and how far a rank has come in the plan.
use Rattle.std.specs.Prelude.{ℕ, ◌-◌, ◌&&◌, ◌==◌, nat_lt, if◌then◌else◌, List, [], ◌∷◌, ◌++◌, Option, Some, None}
use Rattle.cb_letters.specs.declared.Tag.{Tag}
use Rattle.cb_letters.specs.Letters.{mark_tag}
use Rattle.cb_plan.specs.declared.acts.Act.{Act}
use Rattle.cb_plan.specs.declared.acts.Act.TheVariants as act_is
use Rattle.cb_plan.specs.Meaning.{Algebra, State, act}

-- what a letter carries: a copy of a slot, or the mark that ends the lane
pub data Cargo (M : Type 0) : Type 0 where
  Sheet : Option M → Cargo M
  Mark : Cargo M

-- what an act posts on the lane from s to t: a tag, and what the letter carries
abbrev pub letter_of : {M : Type 0} → Act → State M → ℕ → ℕ → List (Tag × Cargo M)
letter_of (act_is.Move from to tag slot into) state s t = if from == s && to == t then (tag, Sheet (state from slot)) ∷ [] else []
letter_of (act_is.Work rank op) state s t = []
letter_of (act_is.Shut from to) state s t = if from == s && to == t then (mark_tag, Mark) ∷ [] else []

-- the letters of a lane, in order: the n-th has number n
abbrev pub letters : {M : Type 0} → Algebra M → List Act → State M → ℕ → ℕ → List (Tag × Cargo M)
letters ops [] state s t = []
letters ops (a ∷ acts) state s t = letter_of a state s t ++ letters ops acts (act ops a state) s t

-- the number of halves of an act that a rank does: one, or none
abbrev pub count_of : Act → ℕ → ℕ
count_of (act_is.Move from to tag slot into) r = if from == r then 1 else (if to == r then 1 else 0)
count_of (act_is.Work rank op) r = if rank == r then 1 else 0
count_of (act_is.Shut from to) r = if from == r then 1 else (if to == r then 1 else 0)

-- the acts before the one whose half is number `done` in the program of the rank; all acts if there is none
abbrev pub before : List Act → ℕ → ℕ → List Act
before [] r done = []
before (a ∷ acts) r done = if nat_lt done (count_of a r) then [] else a ∷ before acts r (done - count_of a r)

-- the act whose half is number `done` in the program of the rank
abbrev pub next_act : List Act → ℕ → ℕ → Option Act
next_act [] r done = None
next_act (a ∷ acts) r done = if nat_lt done (count_of a r) then Some a else next_act acts r (done - count_of a r)
