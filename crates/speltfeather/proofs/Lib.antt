-- Laws of the packed answer.
pub mod Packing
