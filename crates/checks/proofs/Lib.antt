-- Laws of the checks.
pub mod Refusing
pub mod Places
