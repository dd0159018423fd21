pub mod Editing
pub mod Refusing
