pub mod Budget
pub mod Cells
pub mod Writing
