-- The toolbox of lemmas on outcomes. SinkLemmas: what puts append.
pub mod SinkLemmas
