-- The laws that the proofs of the functions cite.
-- Assumes nothing.
pub mod Levels
pub mod Bounds
pub mod Step
