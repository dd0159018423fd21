pub mod Rules
pub mod Bounds
pub mod Required
pub mod Search
pub mod Schemas
pub mod Laws
