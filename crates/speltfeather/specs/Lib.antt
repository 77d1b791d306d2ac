-- What the calls from C take and return.
pub mod Packed
