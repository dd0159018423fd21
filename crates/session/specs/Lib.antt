pub mod Numbers
pub mod Kept
pub mod Locks
pub mod Trials
pub mod Meaning
pub mod Laws
pub mod Equal
