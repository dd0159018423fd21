pub mod Order
pub mod Taken
pub mod Places
pub mod Images
pub mod Kept
pub mod Equal
