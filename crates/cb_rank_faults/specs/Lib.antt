-- RanksFaults: why a run of a plan by its ranks fails, in words.
pub mod RanksFaults
