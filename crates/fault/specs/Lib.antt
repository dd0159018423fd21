pub mod Numbers
pub mod Rows
pub mod Reports
pub mod Codes
pub mod Text
