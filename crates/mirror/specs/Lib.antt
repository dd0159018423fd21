pub mod Sides
pub mod Rule
pub mod Merged
