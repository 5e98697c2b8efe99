-- The toolbox of lemmas on lanes, by topic. Crates above cite those that are `pub`.
--
-- Marks: close marks among the letters posted: `ends_closed-append`, the letter posted last tells whether
--   the lane is closed; `NothingAfterClose-append`, an open lane accepts one more letter.
-- Standings: `same_standing`, lanes that agree in every field stand the same; `not_stranger` and
--   `not_closed`, if nothing refuses a post, there is such a lane, and it is open.
-- LaneLetters: a lane stays one: `IsLane-new` when it is new, `IsLane-append` as a letter is posted,
--   `IsLane-take` as one is taken; `IsAddressed-take`, a letter that a take returns has the lane's two
--   ends, and the number of those taken before it.
pub mod Marks
pub mod Standings
pub mod LaneLetters
