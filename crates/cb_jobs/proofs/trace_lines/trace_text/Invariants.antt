use Rattle.std.proofs.Common.{◌≡◌, take}
use Rattle.std.specs.Prelude.{string_bytes}
use Rattle.cb_jobs.specs.TraceTexts.{trace_text}
use Rattle.cb_jobs.proofs.trace_lines.trace_text.Given as goal

-- the lines of the events so far
abbrev pub invariant-loop-event : goal.invariant-loop-event
invariant-loop-event l = string_bytes l.text ≡ trace_text (take l.event-index l.events)
