-- Laws for loops over rows.
pub mod Filling
pub mod Parts
