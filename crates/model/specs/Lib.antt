pub mod Model
pub mod Refusals
pub mod Steps
pub mod Acts
pub mod Rules
pub mod Link
pub mod Promise
pub mod Laws
