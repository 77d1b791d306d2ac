-- What the functions of this crate cite besides the definitions of nr.
pub mod Tryable
