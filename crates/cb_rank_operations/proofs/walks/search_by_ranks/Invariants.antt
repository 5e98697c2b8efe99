use Rattle.std.proofs.Common.{slice_get}
use Rattle.cb_rank_operations.proofs.walks.search_by_ranks.Given as goal

abbrev pub ghosts-search_over : goal.ghosts-search_over
ghosts-search_over g a = record { ring = slice_get a.rings }
