use Rattle.std.proofs.Common.{rules, ◌≡◌, ◌≢◌, refl}
use Rattle.cb_kept.specs.declared.kept.Kept.TheVariants as kept_is
use Rattle.cb_kept.specs.Kept.{semiring_of, matrix_in}
use Rattle.cb_kept.proofs.KeptJoins.{joined_as, mixed}
use Rattle.cb_kept.proofs.kept_panels.join_alone.Goals as goal
use Rattle.cb_kept.proofs.kept_panels.join_alone.Goals.{in-PlusTimes-PlusTimes, in-MinPlus-MinPlus, in-OrAnd-OrAnd, in-MaxMin-MaxMin, in-PlusPair-PlusPair, in-PlusMin-PlusMin, in-PlusFirst-PlusFirst, in-PlusSecond-PlusSecond, in-MinFirst-MinFirst, in-MinSecond-MinSecond, in-MaxFirst-MaxFirst, in-MaxSecond-MaxSecond, in-MaxPlus-MaxPlus, in-MinMax-MinMax, in_default, in_default-2, in_default-3, in_default-4, in_default-5, in_default-6, in_default-7, in_default-8, in_default-9, in_default-10, in_default-11, in_default-12, in_default-13, in_default-14}

pub returns : goal.returns
unfolding semiring_of matrix_in
returns c = elim c.match-front.branch [
  | in-PlusTimes-PlusTimes w ↦ joined_as c.args.front.now c.args.back.now c.match-front.front c.match-front.back c.match-front.result w.join_panels.result (kept_is.PlusTimes w.in-PlusTimes-PlusTimes.first) (kept_is.PlusTimes w.in-PlusTimes-PlusTimes.last) (kept_is.PlusTimes w.join_panels.new.front) (kept_is.PlusTimes w.join_panels.new.back) w.in-PlusTimes-PlusTimes.is-0 w.in-PlusTimes-PlusTimes.is-1 w.front-is w.back-is w.result-is refl refl refl w.join_panels.ensures
  | in-MinPlus-MinPlus w ↦ joined_as c.args.front.now c.args.back.now c.match-front.front c.match-front.back c.match-front.result w.join_panels-in-MinPlus-MinPlus.result (kept_is.MinPlus w.in-MinPlus-MinPlus.first) (kept_is.MinPlus w.in-MinPlus-MinPlus.last) (kept_is.MinPlus w.join_panels-in-MinPlus-MinPlus.new.front) (kept_is.MinPlus w.join_panels-in-MinPlus-MinPlus.new.back) w.in-MinPlus-MinPlus.is-0 w.in-MinPlus-MinPlus.is-1 w.front-is w.back-is w.result-is refl refl refl w.join_panels-in-MinPlus-MinPlus.ensures
  | in-OrAnd-OrAnd w ↦ joined_as c.args.front.now c.args.back.now c.match-front.front c.match-front.back c.match-front.result w.join_panels-in-OrAnd-OrAnd.result (kept_is.OrAnd w.in-OrAnd-OrAnd.first) (kept_is.OrAnd w.in-OrAnd-OrAnd.last) (kept_is.OrAnd w.join_panels-in-OrAnd-OrAnd.new.front) (kept_is.OrAnd w.join_panels-in-OrAnd-OrAnd.new.back) w.in-OrAnd-OrAnd.is-0 w.in-OrAnd-OrAnd.is-1 w.front-is w.back-is w.result-is refl refl refl w.join_panels-in-OrAnd-OrAnd.ensures
  | in-MaxMin-MaxMin w ↦ joined_as c.args.front.now c.args.back.now c.match-front.front c.match-front.back c.match-front.result w.join_panels-in-MaxMin-MaxMin.result (kept_is.MaxMin w.in-MaxMin-MaxMin.first) (kept_is.MaxMin w.in-MaxMin-MaxMin.last) (kept_is.MaxMin w.join_panels-in-MaxMin-MaxMin.new.front) (kept_is.MaxMin w.join_panels-in-MaxMin-MaxMin.new.back) w.in-MaxMin-MaxMin.is-0 w.in-MaxMin-MaxMin.is-1 w.front-is w.back-is w.result-is refl refl refl w.join_panels-in-MaxMin-MaxMin.ensures
  | in-PlusPair-PlusPair w ↦ joined_as c.args.front.now c.args.back.now c.match-front.front c.match-front.back c.match-front.result w.join_panels-in-PlusPair-PlusPair.result (kept_is.PlusPair w.in-PlusPair-PlusPair.first) (kept_is.PlusPair w.in-PlusPair-PlusPair.last) (kept_is.PlusPair w.join_panels-in-PlusPair-PlusPair.new.front) (kept_is.PlusPair w.join_panels-in-PlusPair-PlusPair.new.back) w.in-PlusPair-PlusPair.is-0 w.in-PlusPair-PlusPair.is-1 w.front-is w.back-is w.result-is refl refl refl w.join_panels-in-PlusPair-PlusPair.ensures
  | in-PlusMin-PlusMin w ↦ joined_as c.args.front.now c.args.back.now c.match-front.front c.match-front.back c.match-front.result w.join_panels-in-PlusMin-PlusMin.result (kept_is.PlusMin w.in-PlusMin-PlusMin.first) (kept_is.PlusMin w.in-PlusMin-PlusMin.last) (kept_is.PlusMin w.join_panels-in-PlusMin-PlusMin.new.front) (kept_is.PlusMin w.join_panels-in-PlusMin-PlusMin.new.back) w.in-PlusMin-PlusMin.is-0 w.in-PlusMin-PlusMin.is-1 w.front-is w.back-is w.result-is refl refl refl w.join_panels-in-PlusMin-PlusMin.ensures
  | in-PlusFirst-PlusFirst w ↦ joined_as c.args.front.now c.args.back.now c.match-front.front c.match-front.back c.match-front.result w.join_panels-in-PlusFirst-PlusFirst.result (kept_is.PlusFirst w.in-PlusFirst-PlusFirst.first) (kept_is.PlusFirst w.in-PlusFirst-PlusFirst.last) (kept_is.PlusFirst w.join_panels-in-PlusFirst-PlusFirst.new.front) (kept_is.PlusFirst w.join_panels-in-PlusFirst-PlusFirst.new.back) w.in-PlusFirst-PlusFirst.is-0 w.in-PlusFirst-PlusFirst.is-1 w.front-is w.back-is w.result-is refl refl refl w.join_panels-in-PlusFirst-PlusFirst.ensures
  | in-PlusSecond-PlusSecond w ↦ joined_as c.args.front.now c.args.back.now c.match-front.front c.match-front.back c.match-front.result w.join_panels-in-PlusSecond-PlusSecond.result (kept_is.PlusSecond w.in-PlusSecond-PlusSecond.first) (kept_is.PlusSecond w.in-PlusSecond-PlusSecond.last) (kept_is.PlusSecond w.join_panels-in-PlusSecond-PlusSecond.new.front) (kept_is.PlusSecond w.join_panels-in-PlusSecond-PlusSecond.new.back) w.in-PlusSecond-PlusSecond.is-0 w.in-PlusSecond-PlusSecond.is-1 w.front-is w.back-is w.result-is refl refl refl w.join_panels-in-PlusSecond-PlusSecond.ensures
  | in-MinFirst-MinFirst w ↦ joined_as c.args.front.now c.args.back.now c.match-front.front c.match-front.back c.match-front.result w.join_panels-in-MinFirst-MinFirst.result (kept_is.MinFirst w.in-MinFirst-MinFirst.first) (kept_is.MinFirst w.in-MinFirst-MinFirst.last) (kept_is.MinFirst w.join_panels-in-MinFirst-MinFirst.new.front) (kept_is.MinFirst w.join_panels-in-MinFirst-MinFirst.new.back) w.in-MinFirst-MinFirst.is-0 w.in-MinFirst-MinFirst.is-1 w.front-is w.back-is w.result-is refl refl refl w.join_panels-in-MinFirst-MinFirst.ensures
  | in-MinSecond-MinSecond w ↦ joined_as c.args.front.now c.args.back.now c.match-front.front c.match-front.back c.match-front.result w.join_panels-in-MinSecond-MinSecond.result (kept_is.MinSecond w.in-MinSecond-MinSecond.first) (kept_is.MinSecond w.in-MinSecond-MinSecond.last) (kept_is.MinSecond w.join_panels-in-MinSecond-MinSecond.new.front) (kept_is.MinSecond w.join_panels-in-MinSecond-MinSecond.new.back) w.in-MinSecond-MinSecond.is-0 w.in-MinSecond-MinSecond.is-1 w.front-is w.back-is w.result-is refl refl refl w.join_panels-in-MinSecond-MinSecond.ensures
  | in-MaxFirst-MaxFirst w ↦ joined_as c.args.front.now c.args.back.now c.match-front.front c.match-front.back c.match-front.result w.join_panels-in-MaxFirst-MaxFirst.result (kept_is.MaxFirst w.in-MaxFirst-MaxFirst.first) (kept_is.MaxFirst w.in-MaxFirst-MaxFirst.last) (kept_is.MaxFirst w.join_panels-in-MaxFirst-MaxFirst.new.front) (kept_is.MaxFirst w.join_panels-in-MaxFirst-MaxFirst.new.back) w.in-MaxFirst-MaxFirst.is-0 w.in-MaxFirst-MaxFirst.is-1 w.front-is w.back-is w.result-is refl refl refl w.join_panels-in-MaxFirst-MaxFirst.ensures
  | in-MaxSecond-MaxSecond w ↦ joined_as c.args.front.now c.args.back.now c.match-front.front c.match-front.back c.match-front.result w.join_panels-in-MaxSecond-MaxSecond.result (kept_is.MaxSecond w.in-MaxSecond-MaxSecond.first) (kept_is.MaxSecond w.in-MaxSecond-MaxSecond.last) (kept_is.MaxSecond w.join_panels-in-MaxSecond-MaxSecond.new.front) (kept_is.MaxSecond w.join_panels-in-MaxSecond-MaxSecond.new.back) w.in-MaxSecond-MaxSecond.is-0 w.in-MaxSecond-MaxSecond.is-1 w.front-is w.back-is w.result-is refl refl refl w.join_panels-in-MaxSecond-MaxSecond.ensures
  | in-MaxPlus-MaxPlus w ↦ joined_as c.args.front.now c.args.back.now c.match-front.front c.match-front.back c.match-front.result w.join_panels-in-MaxPlus-MaxPlus.result (kept_is.MaxPlus w.in-MaxPlus-MaxPlus.first) (kept_is.MaxPlus w.in-MaxPlus-MaxPlus.last) (kept_is.MaxPlus w.join_panels-in-MaxPlus-MaxPlus.new.front) (kept_is.MaxPlus w.join_panels-in-MaxPlus-MaxPlus.new.back) w.in-MaxPlus-MaxPlus.is-0 w.in-MaxPlus-MaxPlus.is-1 w.front-is w.back-is w.result-is refl refl refl w.join_panels-in-MaxPlus-MaxPlus.ensures
  | in-MinMax-MinMax w ↦ joined_as c.args.front.now c.args.back.now c.match-front.front c.match-front.back c.match-front.result w.join_panels-in-MinMax-MinMax.result (kept_is.MinMax w.in-MinMax-MinMax.first) (kept_is.MinMax w.in-MinMax-MinMax.last) (kept_is.MinMax w.join_panels-in-MinMax-MinMax.new.front) (kept_is.MinMax w.join_panels-in-MinMax-MinMax.new.back) w.in-MinMax-MinMax.is-0 w.in-MinMax-MinMax.is-1 w.front-is w.back-is w.result-is refl refl refl w.join_panels-in-MinMax-MinMax.ensures
  | in_default w ↦ (let n : semiring_of c.args.back.now ≢ semiring_of c.args.front.now = search rules in let p : c.match-front.front ≡ c.args.front.now = search rules in let q : c.match-front.back ≡ c.args.back.now = search rules in mixed c.args.front.now c.args.back.now c.match-front.front c.match-front.back c.match-front.result p q w.result-is n)
  | in_default-2 w ↦ (let n : semiring_of c.args.back.now ≢ semiring_of c.args.front.now = search rules in let p : c.match-front.front ≡ c.args.front.now = search rules in let q : c.match-front.back ≡ c.args.back.now = search rules in mixed c.args.front.now c.args.back.now c.match-front.front c.match-front.back c.match-front.result p q w.result-is n)
  | in_default-3 w ↦ (let n : semiring_of c.args.back.now ≢ semiring_of c.args.front.now = search rules in let p : c.match-front.front ≡ c.args.front.now = search rules in let q : c.match-front.back ≡ c.args.back.now = search rules in mixed c.args.front.now c.args.back.now c.match-front.front c.match-front.back c.match-front.result p q w.result-is n)
  | in_default-4 w ↦ (let n : semiring_of c.args.back.now ≢ semiring_of c.args.front.now = search rules in let p : c.match-front.front ≡ c.args.front.now = search rules in let q : c.match-front.back ≡ c.args.back.now = search rules in mixed c.args.front.now c.args.back.now c.match-front.front c.match-front.back c.match-front.result p q w.result-is n)
  | in_default-5 w ↦ (let n : semiring_of c.args.back.now ≢ semiring_of c.args.front.now = search rules in let p : c.match-front.front ≡ c.args.front.now = search rules in let q : c.match-front.back ≡ c.args.back.now = search rules in mixed c.args.front.now c.args.back.now c.match-front.front c.match-front.back c.match-front.result p q w.result-is n)
  | in_default-6 w ↦ (let n : semiring_of c.args.back.now ≢ semiring_of c.args.front.now = search rules in let p : c.match-front.front ≡ c.args.front.now = search rules in let q : c.match-front.back ≡ c.args.back.now = search rules in mixed c.args.front.now c.args.back.now c.match-front.front c.match-front.back c.match-front.result p q w.result-is n)
  | in_default-7 w ↦ (let n : semiring_of c.args.back.now ≢ semiring_of c.args.front.now = search rules in let p : c.match-front.front ≡ c.args.front.now = search rules in let q : c.match-front.back ≡ c.args.back.now = search rules in mixed c.args.front.now c.args.back.now c.match-front.front c.match-front.back c.match-front.result p q w.result-is n)
  | in_default-8 w ↦ (let n : semiring_of c.args.back.now ≢ semiring_of c.args.front.now = search rules in let p : c.match-front.front ≡ c.args.front.now = search rules in let q : c.match-front.back ≡ c.args.back.now = search rules in mixed c.args.front.now c.args.back.now c.match-front.front c.match-front.back c.match-front.result p q w.result-is n)
  | in_default-9 w ↦ (let n : semiring_of c.args.back.now ≢ semiring_of c.args.front.now = search rules in let p : c.match-front.front ≡ c.args.front.now = search rules in let q : c.match-front.back ≡ c.args.back.now = search rules in mixed c.args.front.now c.args.back.now c.match-front.front c.match-front.back c.match-front.result p q w.result-is n)
  | in_default-10 w ↦ (let n : semiring_of c.args.back.now ≢ semiring_of c.args.front.now = search rules in let p : c.match-front.front ≡ c.args.front.now = search rules in let q : c.match-front.back ≡ c.args.back.now = search rules in mixed c.args.front.now c.args.back.now c.match-front.front c.match-front.back c.match-front.result p q w.result-is n)
  | in_default-11 w ↦ (let n : semiring_of c.args.back.now ≢ semiring_of c.args.front.now = search rules in let p : c.match-front.front ≡ c.args.front.now = search rules in let q : c.match-front.back ≡ c.args.back.now = search rules in mixed c.args.front.now c.args.back.now c.match-front.front c.match-front.back c.match-front.result p q w.result-is n)
  | in_default-12 w ↦ (let n : semiring_of c.args.back.now ≢ semiring_of c.args.front.now = search rules in let p : c.match-front.front ≡ c.args.front.now = search rules in let q : c.match-front.back ≡ c.args.back.now = search rules in mixed c.args.front.now c.args.back.now c.match-front.front c.match-front.back c.match-front.result p q w.result-is n)
  | in_default-13 w ↦ (let n : semiring_of c.args.back.now ≢ semiring_of c.args.front.now = search rules in let p : c.match-front.front ≡ c.args.front.now = search rules in let q : c.match-front.back ≡ c.args.back.now = search rules in mixed c.args.front.now c.args.back.now c.match-front.front c.match-front.back c.match-front.result p q w.result-is n)
  | in_default-14 w ↦ (let n : semiring_of c.args.back.now ≢ semiring_of c.args.front.now = search rules in let p : c.match-front.front ≡ c.args.front.now = search rules in let q : c.match-front.back ≡ c.args.back.now = search rules in mixed c.args.front.now c.args.back.now c.match-front.front c.match-front.back c.match-front.result p q w.result-is n)
]
