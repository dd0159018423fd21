pub mod Seen
pub mod Checks
pub mod Performing
