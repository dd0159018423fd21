pub mod Spending
pub mod Asking
pub mod Cells
pub mod Rule
pub mod Writes
