-- What a table of the code is, besides the definitions of nr.
pub mod Nibbles
