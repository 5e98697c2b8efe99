-- The parts of a sink over a writer.
use Rattle.std.specs.Prelude.{Bool}
use Rattle.cb_job_ends.specs.declared.sinks.WriterSink.{WriterSink}

module _ {W : Type 0} where
  -- the writer
  abbrev pub writer_of : WriterSink W → W
  writer_of s = s.inner

  -- whether a put failed, or accepted none of its bytes
  abbrev pub has_failed_of : WriterSink W → Bool
  has_failed_of s = s.has_failed
