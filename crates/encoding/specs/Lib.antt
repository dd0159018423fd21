pub mod Forms
pub mod Counts
