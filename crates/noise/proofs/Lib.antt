-- Laws of the noise count: one value, and the loop that counts.
pub mod Counting
