-- Worked collectives, computed.
use Rattle.std.specs.Prelude.{◌≡◌, ℕ, ◌+◌, ◌-◌, ◌*◌, ◌==◌, nat_le, nat_lt, ◌&&◌, if◌then◌else◌, List, [], ◌∷◌, Some, None, refl, Option, map}
use Rattle.cb_letters.specs.declared.Tag.{Tag}
use Rattle.cb_plan.specs.declared.acts.Op.TheVariants as op_is
use Rattle.cb_plan.specs.declared.acts.Act.{Act}
use Rattle.cb_plan.specs.declared.acts.Act.TheVariants as act_is
use Rattle.cb_plan.specs.Meaning.{Algebra, State, meaning}
use Rattle.cb_plan_parts.specs.Collectives.{broadcast_acts, gather_acts, reduce_acts, all_to_all_acts, shut_acts}

abbrev tag_4 : Tag
tag_4 = record { 0 = 4 }

abbrev three_members : List ℕ
three_members = 0 ∷ 1 ∷ 2 ∷ []

-- a tree over four members, its root the third
tree_of_4 : broadcast_acts (0 ∷ 1 ∷ 2 ∷ 3 ∷ []) 2 tag_4 0 1 ≡
    act_is.Work 2 (op_is.Copy 0 1)
    ∷ act_is.Move 2 3 tag_4 0 1
    ∷ act_is.Move 2 0 tag_4 0 1
    ∷ act_is.Move 3 1 tag_4 1 1
    ∷ []
tree_of_4 = refl

-- a tree over six members, its root the first
tree_of_6 : broadcast_acts (0 ∷ 1 ∷ 2 ∷ 3 ∷ 4 ∷ 5 ∷ []) 0 tag_4 1 1 ≡
    act_is.Move 0 1 tag_4 1 1
    ∷ act_is.Move 0 2 tag_4 1 1
    ∷ act_is.Move 1 3 tag_4 1 1
    ∷ act_is.Move 1 4 tag_4 1 1
    ∷ act_is.Move 2 5 tag_4 1 1
    ∷ []
tree_of_6 = refl

gather_of_3 : gather_acts three_members 0 tag_4 0 10 ≡
    act_is.Work 0 (op_is.Copy 0 10)
    ∷ act_is.Move 1 0 tag_4 0 11
    ∷ act_is.Move 2 0 tag_4 0 12
    ∷ []
gather_of_3 = refl

reduce_of_3 : reduce_acts three_members 2 tag_4 0 2 3 ≡
    act_is.Work 2 (op_is.Copy 0 2)
    ∷ act_is.Move 0 2 tag_4 0 3
    ∷ act_is.Work 2 (op_is.Add 2 3 2)
    ∷ act_is.Move 1 2 tag_4 0 3
    ∷ act_is.Work 2 (op_is.Add 2 3 2)
    ∷ []
reduce_of_3 = refl

all_to_all_of_3 : all_to_all_acts three_members tag_4 20 30 ≡
    act_is.Work 0 (op_is.Copy 20 30)
    ∷ act_is.Move 0 1 tag_4 21 30
    ∷ act_is.Move 0 2 tag_4 22 30
    ∷ act_is.Move 1 0 tag_4 20 31
    ∷ act_is.Work 1 (op_is.Copy 21 31)
    ∷ act_is.Move 1 2 tag_4 22 31
    ∷ act_is.Move 2 0 tag_4 20 32
    ∷ act_is.Move 2 1 tag_4 21 32
    ∷ act_is.Work 2 (op_is.Copy 22 32)
    ∷ []
all_to_all_of_3 = refl

shut_of_3 : shut_acts 3 ≡
    act_is.Shut 0 1
    ∷ act_is.Shut 0 2
    ∷ act_is.Shut 1 0
    ∷ act_is.Shut 1 2
    ∷ act_is.Shut 2 0
    ∷ act_is.Shut 2 1
    ∷ []
shut_of_3 = refl

-- blocks of 1 by 1, given by their only value
abbrev numbers : Algebra ℕ
numbers = record {
  empty = λ shape. 0;
  mul_add = λ a b acc. a * b + acc;
  add = λ a b. a + b;
  times = λ a b. a * b;
  transpose = λ a. a;
  column_sums = λ a. a;
  cut = λ rows cols a. a;
  place = λ shape at a. a;
  mul_vec = λ a x. a * x;
  prune = λ test a. a;
  mask = λ a m. a;
}

-- three ranks with 5, 6 and 7 in slot 0, and 100 + 10 s + t in slot 20 + t of rank s
abbrev state : State ℕ
state r n = if nat_lt r 3 && n == 0 then Some (5 + r) else (if nat_lt r 3 && nat_le 20 n && nat_lt n 23 then Some (100 + 10 * r + (n - 20)) else None)

abbrev after : List Act → State ℕ
after acts = meaning numbers acts state

-- what these acts leave in these slots, each given by its rank and number
abbrev pub left_in : List Act → List (ℕ × ℕ) → List (Option ℕ)
left_in acts slots = map (λ (p : ℕ × ℕ). after acts p.0 p.1) slots

after_broadcast : left_in (broadcast_acts three_members 1 tag_4 0 1) ((0, 1) ∷ (1, 1) ∷ (2, 1) ∷ []) ≡ Some 6 ∷ Some 6 ∷ Some 6 ∷ []
after_broadcast = refl

after_gather : left_in (gather_acts three_members 0 tag_4 0 10) ((0, 10) ∷ (0, 11) ∷ (0, 12) ∷ []) ≡ Some 5 ∷ Some 6 ∷ Some 7 ∷ []
after_gather = refl

after_reduce : after (reduce_acts three_members 2 tag_4 0 2 3) 2 2 ≡ Some 18
after_reduce = refl

after_all_to_all : left_in (all_to_all_acts three_members tag_4 20 30) ((1, 30) ∷ (1, 31) ∷ (1, 32) ∷ []) ≡ Some 101 ∷ Some 111 ∷ Some 121 ∷ []
after_all_to_all = refl
