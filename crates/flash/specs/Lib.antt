pub mod Cell
pub mod Ran
pub mod Steps
pub mod Rule
pub mod Cells
pub mod Running
pub mod Asking
