-- The toolbox of lemmas on the ends of runs. PartEnds: jobs by a program that has some of them.
pub mod PartEnds
-- For this crate alone. EndingLemmas: what has been written at the end of a run.
mod EndingLemmas
