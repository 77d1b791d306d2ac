-- What the register of the code does, as a row of bits.
pub mod Register
