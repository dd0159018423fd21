pub mod Answers
pub mod Facts
pub mod Reach
pub mod Carrying
