-- The laws that the proofs of the functions cite.
-- Assumes nothing.
pub mod Halves
pub mod Blocks
pub mod Stages
pub mod Placing
