pub mod Named
pub mod Step
pub mod Holds
pub mod Alike
pub mod Tracks
pub mod Complete
pub mod Going
pub mod Only
