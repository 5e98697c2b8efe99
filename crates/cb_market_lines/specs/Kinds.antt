-- The kinds of faults, in words.
use Rattle.std.specs.Prelude.{ℕ, List, codes}
use Rattle.cb_market_lines.specs.declared.Kind.{Kind}
use Rattle.cb_market_lines.specs.declared.Kind.TheVariants.{BadHeader, Unsupported, BadSize, TooLarge, NotSquare, BadLine, BadNumber}
use Rattle.cb_market_lines.specs.declared.Kind.TheVariants.{IndexRange, AboveDiagonal, ValueRange, ExtraEntry, MissingEntries, Memory, OnDiagonal}

abbrev pub kind_text : Kind → List ℕ
kind_text BadHeader = codes "not a Matrix Market header"
kind_text Unsupported = codes "header not supported"
kind_text BadSize = codes "bad size line"
kind_text TooLarge = codes "number too large"
kind_text NotSquare = codes "matrix not square"
kind_text BadLine = codes "wrong number of words"
kind_text BadNumber = codes "not a whole number"
kind_text IndexRange = codes "index out of range"
kind_text AboveDiagonal = codes "entry above the diagonal"
kind_text ValueRange = codes "value out of range"
kind_text ExtraEntry = codes "more entries than announced"
kind_text MissingEntries = codes "fewer entries than announced"
kind_text Memory = codes "out of memory"
kind_text OnDiagonal = codes "entry on the diagonal"
