pub mod Layout
pub mod Device
pub mod Rule
