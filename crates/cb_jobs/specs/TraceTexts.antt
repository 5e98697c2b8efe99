-- The lines of a trace.
use Rattle.std.specs.Prelude.{◌++◌, ℕ, List, [], Option, Some, None, flat_map, codes, decimal}
use Rattle.cb_trace.specs.Traces.{TraceView}
use Rattle.cb_trace.specs.declared.events.Envelope.{Envelope}
use Rattle.cb_trace.specs.declared.events.TraceEvent.{TraceEvent}
use Rattle.cb_trace.specs.declared.events.TraceEvent.TheVariants.{Posted, Took, Closed, Ended}

-- the word of an event, the ranks that the letter goes from and to, and its number
abbrev pub event_words : List ℕ → Envelope → List ℕ
event_words word e = codes "% " ++ word ++ codes " " ++ decimal e.from ++ codes " " ++ decimal e.to ++ codes " " ++ decimal e.number

-- the line of a letter ends with its tag
abbrev pub letter_line : List ℕ → Envelope → List ℕ
letter_line word e = event_words word e ++ codes " " ++ decimal e.tag.0 ++ codes "\n"

-- a close mark has no tag
abbrev pub mark_line : List ℕ → Envelope → List ℕ
mark_line word e = event_words word e ++ codes "\n"

-- the line of an event
abbrev pub line_of_event : TraceEvent → List ℕ
line_of_event (Posted e) = letter_line (codes "posted") e
line_of_event (Took e) = letter_line (codes "took") e
line_of_event (Closed e) = mark_line (codes "closed") e
line_of_event (Ended e) = mark_line (codes "ended") e

-- a line for each event, in order
abbrev pub trace_text : List TraceEvent → List ℕ
trace_text es = flat_map line_of_event es

-- the lines of a trace, and nothing if none was kept
abbrev pub trace_lines : Option TraceView → List ℕ
trace_lines None = []
trace_lines (Some t) = trace_text t.events
