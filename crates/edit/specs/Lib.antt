pub mod Items
pub mod Lists
pub mod Numbers
pub mod Does
pub mod Applied
pub mod Options
pub mod Edited
pub mod Laws
