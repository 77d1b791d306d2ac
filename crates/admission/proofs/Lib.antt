-- Laws of the sizes, of the window and of ranks.
pub mod Sizes
pub mod Admission
pub mod Ranks
