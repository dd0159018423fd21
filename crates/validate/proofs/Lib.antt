pub mod Lists
pub mod Records
pub mod Turns
pub mod Alone
pub mod Unmet
pub mod Low
pub mod Decided
pub mod Schemas
