use Rattle.std.proofs.Common.{◌≡◌, ◌≤◌, length, vec_capacity}
use Rattle.cb_job_files.specs.Files.{HoldsBelow}
use Rattle.cb_job_files.proofs.files.load_all.Given as goal

-- one text for each name so far, what its file holds, and room for all
abbrev pub invariant-loop-which : goal.invariant-loop-which
invariant-loop-which g l = record {
  held : HoldsBelow (g.F.FileSource.holds l.files) l.names l.texts.items l.which;
  count : length l.texts.items ≡ l.which;
  room : length l.names ≤ vec_capacity l.texts;
}
