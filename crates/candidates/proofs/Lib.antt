-- Laws of the levels and of the test of a candidate.
pub mod Checked
