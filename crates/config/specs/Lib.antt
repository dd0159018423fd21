pub mod Order
pub mod Configs
pub mod Lawful
pub mod Images
pub mod Laws
pub mod Equal
