pub mod Tables
pub mod Keeping
pub mod Promising
