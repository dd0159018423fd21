pub mod Layout
pub mod Plans
pub mod Restart
pub mod Laws
