use Rattle.std.proofs.Common.{slice_get}
use Rattle.cb_rank_tests.proofs.crews.crew_runs_twice.Given as goal

abbrev pub ghosts-hired_runs_twice : goal.ghosts-hired_runs_twice
ghosts-hired_runs_twice g a = record { ring = slice_get a.rings }
