pub mod Rows
pub mod Rules
pub mod Depth
pub mod Nodes
pub mod Checks
pub mod Paths
pub mod Equal
