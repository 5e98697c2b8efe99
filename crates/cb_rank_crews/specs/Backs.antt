-- What comes back of a crew's workers.
use Rattle.std.specs.Prelude.{◌≡◌, ℕ, List, ◌∷◌, ◌++◌, Option}
use Rattle.cb_rank_runs.specs.Crews.{Member}

-- a rank and its desk as a worker was given them, and what is left of them, if anything is
abbrev pub BackView : Type 0
BackView = Member × Option Member

abbrev pub was_given : BackView → Member
was_given b = b.0

-- in a crew the rank of this number comes directly after these members
pub record IsNext (crew before : List Member) (number : ℕ) : Type 0 where
  pub rank : Member
  pub after : List Member
  pub all : before ++ rank ∷ after ≡ crew
  pub me : rank.1.me ≡ number
