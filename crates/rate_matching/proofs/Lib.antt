-- Laws of the loops of bit selection.
pub mod Pieces
pub mod Sending
pub mod Summing
pub mod Undoing
pub mod Moving
