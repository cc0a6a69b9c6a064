pub mod Tracks
pub mod Keeps
pub mod StaysSound
pub mod Examples
pub mod Attempts
