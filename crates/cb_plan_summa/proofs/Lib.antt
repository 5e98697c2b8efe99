-- StageSlots: the slots that the blocks of stages arrive in. Stages: what the stages do, over blocks of any kind.
-- ProductParts: the product part by part. Masks: blocks under blocks of a mask. Whole: the plans make the product.
-- Soundness: their acts pass the check. SummaLengths: they are far from the limit.
pub mod StageSlots
pub mod Stages
pub mod ProductParts
pub mod Masks
pub mod Whole
pub mod Soundness
pub mod SummaLengths
