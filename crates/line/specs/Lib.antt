pub mod Settings
pub mod Meaning
pub mod Ahead
pub mod Taken
pub mod Steps
pub mod Put
pub mod Setup
pub mod Sound
