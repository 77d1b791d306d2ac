-- Laws of the search: what it keeps, a candidate tried, and its two loops.
pub mod Keeping
pub mod Attempts
pub mod Turns
