-- Why there is no part of a matrix by lists.
use Rattle.std.proofs.Common.{ℕ, List}
use Rattle.std.specs.Prelude.{Err, Option}
use Rattle.cb_semirings.specs.Arithmetic.{Arithmetic}
use Rattle.cb_matrix.specs.Sparse.{Sparse}
use Rattle.cb_operations.specs.declared.refusals.ComputeFault.{ComputeFault}
use Rattle.cb_operations.specs.declared.refusals.ComputeFault.TheVariants.{Refused, Memory}
use Rattle.cb_command_line.specs.declared.lists.Lists.{Lists}
use Rattle.cb_job_ends.specs.WriteEnds.{told_of}
use Rattle.cb_job_computations.specs.Extracts.{AreListsFault, AreWithLists, IsExtractAnswered}

-- a list is refused; or none is, and memory is
pub unlisted : {S : Type 0} (lists : Lists) (s : Arithmetic) (texts : List (List ℕ)) (a : Sparse) (k l : Option Sparse) → AreWithLists lists s texts a k l
    → (fault : ComputeFault) → AreListsFault a.shape k l fault → IsExtractAnswered {S = S} lists s texts (Err (told_of fault))
unlisted lists s texts a k l are (Refused refusal) h = record { answer = tt; unwritten = tt; fault = (a, k, l, are, h); before = λ e. cc }
unlisted lists s texts a k l are Memory h = record { answer = tt; unwritten = tt; fault = (a, k, l, are, h); before = λ e. cc }
