pub mod Made
pub mod Recovery
pub mod Standing
