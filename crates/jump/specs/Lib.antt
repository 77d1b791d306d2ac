-- What the contract of `jump` cites besides the definitions of nr.
pub mod Parities
