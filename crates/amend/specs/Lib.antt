pub mod Amends
