pub mod Power
pub mod Reach
pub mod Accesses
pub mod View
pub mod Reports
pub mod Views
