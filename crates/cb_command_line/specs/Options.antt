-- The options and files of a command as they were found in the words: a row for each that was given, and for each option
-- that has a default and wasn't.
use Rattle.std.specs.Prelude.{◌==◌, ◌-◌, ◌^◌, ◌&&◌, ℕ, ℤ, Bool, false, List, length, Option, Some, None, is_some, find}
use Rattle.std.specs.Prelude.{if◌then◌else◌, nat_lt, option_map, option_and_then, bytes_eq}
use Rattle.std.specs.List.{list_all}
use Rattle.std.specs.Option.{option_map_or}
use Rattle.std.specs.Char.{digit_value}
use Rattle.std.specs.Str.Parse.{digits_value, signed_digits_value, without_leading_plus}
use Rattle.clap.specs.Matches.{found_of}
use Rattle.clap.specs.Walk.{Row, Text, first_of, one_of, rows_of}
use Rattle.clap.specs.declared.parser.matches.ArgMatches.{ArgMatches}

-- the rows of a command
abbrev pub rows_in : ArgMatches → List Row
rows_in found = rows_of (found_of found)

-- the option has a row
abbrev pub is_there : Text → List Row → Bool
is_there option rows = is_some (find (λ row. bytes_eq row.id option) rows)

-- the word of an option or a file, as it was given or by default
abbrev pub word : Text → List Row → Option Text
word = first_of

-- the option has this word; a flag that is given has the word `true`
abbrev pub is_word : Text → Text → List Row → Bool
is_word option expected rows = option_map_or (λ given. bytes_eq given expected) (word option rows) false

-- one decimal digit or more
abbrev pub is_numeral : Text → Bool
is_numeral digits = nat_lt 0 (length digits) && list_all (λ digit. nat_lt (digit_value digit) 10) digits

-- the number of so many bits that a text writes, with a plus before it or without
abbrev pub number_in : ℕ → Text → Option ℕ
number_in bits text =
    let digits = without_leading_plus text in
    if is_numeral digits && nat_lt (digits_value 10 digits) (2 ^ bits) then Some (digits_value 10 digits) else None

-- the number of an option
abbrev pub number : ℕ → Text → List Row → Option ℕ
number bits option rows = option_and_then (number_in bits) (one_of option rows)

-- the number of an option, which may be negative
abbrev pub integer : Text → List Row → Option ℤ
integer option rows = option_map (signed_digits_value 10) (one_of option rows)

-- the row, the column or the vertex of an option: the words count from 1, and a job from 0
abbrev pub place : Text → List Row → Option ℕ
place option rows = option_and_then (λ n. if n == 0 then None else Some (n - 1)) (number 32 option rows)
