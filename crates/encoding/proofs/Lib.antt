pub mod Words
pub mod Lists
