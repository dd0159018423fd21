pub mod Targets
pub mod Faults
pub mod Accepting
pub mod Running
pub mod Mending
pub mod Calls
pub mod Standing
