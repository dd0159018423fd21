pub mod Numbered
pub mod Compare
pub mod Small
pub mod Depth
