-- What a letter carries.
use Rattle.std.specs.Prelude.{Bool, true, false}
use Rattle.cb_letters.specs.declared.Body.{Body}
use Rattle.cb_letters.specs.declared.Body.TheVariants.{Sheet, Lost, Close}
use Rattle.cb_letters.specs.declared.Tag.{Tag}

-- the tag of a close mark
abbrev pub mark_tag : Tag
mark_tag = record { 0 = 0 }

module _ {P : Type 0} where
  -- the body is the mark that ends a lane
  abbrev pub is_close : Body P → Bool
  is_close (Sheet p) = false
  is_close (Lost origin) = false
  is_close Close = true
