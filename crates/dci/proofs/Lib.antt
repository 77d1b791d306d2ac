-- Laws of the ranges, and of coding, decoding and describing from their steps.
pub mod Ranges
pub mod Made
pub mod Outcomes
pub mod Judging
pub mod Tallying
pub mod Telling
pub mod Bounded
