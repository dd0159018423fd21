pub mod Bytes
pub mod Cell
pub mod Steps
pub mod Rule
pub mod Cells
