-- Laws of the table.
pub mod Picking
