-- Laws of the parity register.
pub mod Register
