-- The toolbox of lemmas on texts that are read. PartedTexts: a text in parts. LongerTexts: a text that goes on.
pub mod PartedTexts
pub mod LongerTexts
-- For this crate alone. Listed, Gatherings: the entries of a text, as they are gathered. Beginnings: lists that begin with
-- others.
mod Listed
mod Gatherings
mod Beginnings
