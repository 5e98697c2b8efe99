-- The semirings by name and by number.
use Rattle.std.specs.Prelude.{ℕ, List, codes, Option, Some, None, if◌then◌else◌, bytes_eq, ◌==◌}
use Rattle.cb_semirings.specs.Arithmetic.{Arithmetic}
use Rattle.cb_semirings.specs.Tables.{plus_times, min_plus, or_and, max_min, plus_pair, plus_min, plus_first, plus_second, min_first, min_second, max_first, max_second, max_plus, min_max}
use Rattle.cb_semirings.specs.declared.names.SemiringName.{SemiringName}
use Rattle.cb_semirings.specs.declared.names.SemiringName.TheVariants.{PlusTimes, MinPlus, OrAnd, MaxMin, PlusPair, PlusMin, PlusFirst, PlusSecond, MinFirst, MinSecond, MaxFirst, MaxSecond, MaxPlus, MinMax}

-- the operations of a semiring
abbrev pub arithmetic_of : SemiringName → Arithmetic
arithmetic_of PlusTimes = plus_times
arithmetic_of MinPlus = min_plus
arithmetic_of OrAnd = or_and
arithmetic_of MaxMin = max_min
arithmetic_of PlusPair = plus_pair
arithmetic_of PlusMin = plus_min
arithmetic_of PlusFirst = plus_first
arithmetic_of PlusSecond = plus_second
arithmetic_of MinFirst = min_first
arithmetic_of MinSecond = min_second
arithmetic_of MaxFirst = max_first
arithmetic_of MaxSecond = max_second
arithmetic_of MaxPlus = max_plus
arithmetic_of MinMax = min_max

-- the semiring with a name
abbrev pub named : List ℕ → Option SemiringName
named word =
    if bytes_eq word (codes "plus-times") then Some PlusTimes
    else (if bytes_eq word (codes "min-plus") then Some MinPlus
    else (if bytes_eq word (codes "or-and") then Some OrAnd
    else (if bytes_eq word (codes "max-min") then Some MaxMin
    else (if bytes_eq word (codes "plus-pair") then Some PlusPair
    else (if bytes_eq word (codes "plus-min") then Some PlusMin
    else (if bytes_eq word (codes "plus-first") then Some PlusFirst
    else (if bytes_eq word (codes "plus-second") then Some PlusSecond
    else (if bytes_eq word (codes "min-first") then Some MinFirst
    else (if bytes_eq word (codes "min-second") then Some MinSecond
    else (if bytes_eq word (codes "max-first") then Some MaxFirst
    else (if bytes_eq word (codes "max-second") then Some MaxSecond
    else (if bytes_eq word (codes "max-plus") then Some MaxPlus
    else (if bytes_eq word (codes "min-max") then Some MinMax else None)))))))))))))

-- the semiring with a number
abbrev pub numbered : ℕ → Option SemiringName
numbered n =
    if n == 0 then Some PlusTimes
    else (if n == 1 then Some MinPlus
    else (if n == 2 then Some OrAnd
    else (if n == 3 then Some MaxMin
    else (if n == 4 then Some PlusPair
    else (if n == 5 then Some PlusMin
    else (if n == 6 then Some PlusFirst
    else (if n == 7 then Some PlusSecond
    else (if n == 8 then Some MinFirst
    else (if n == 9 then Some MinSecond
    else (if n == 10 then Some MaxFirst
    else (if n == 11 then Some MaxSecond
    else (if n == 12 then Some MaxPlus
    else (if n == 13 then Some MinMax else None)))))))))))))
