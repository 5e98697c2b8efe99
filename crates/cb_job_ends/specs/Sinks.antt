-- What puts do to a sink.
use Rattle.std.specs.Prelude.{◌≡◌, ◌==◌, ◌&&◌, ℕ, List, Bool, true, false, take, length, nat_lt, Ok, Err, OnOk, OnErr, Option, Result}
use Rattle.std.specs.Io.KnownBytes.{Appends}

-- a put fails if it returns an error, or accepts none of its bytes
abbrev pub put_failed : {E : Type 0} → Result ℕ E → List ℕ → Bool
put_failed (Ok n) bytes = (n == 0) && nat_lt 0 (length bytes)
put_failed (Err e) bytes = true

-- known bytes grow by a prefix of the text
abbrev pub AppendsPrefix : Option (List ℕ) → Option (List ℕ) → List ℕ → Type 0
AppendsPrefix old new text = (k : ℕ) × Appends old new (take k text)

-- How a call ends that puts a text: the whole of it is written, and the sink still works; or a beginning of it is, and the sink
-- has failed. It is about what is known of the sink's bytes, before and after, and about whether the sink has failed then.
pub record IsPut {T E : Type 0} (text : List ℕ) (before after : Option (List ℕ)) (has_failed : Bool) (result : Result T E) : Type 0 where
  pub whole : OnOk result (Appends before after text)
  pub works : OnOk result (has_failed ≡ false)
  pub prefix : OnErr result (AppendsPrefix before after text)
  pub fails : OnErr result (has_failed ≡ true)
