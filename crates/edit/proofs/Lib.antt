pub mod Judged
pub mod Under
pub mod Changed
pub mod Stays
pub mod Steps
pub mod Edited
pub mod Lawful
