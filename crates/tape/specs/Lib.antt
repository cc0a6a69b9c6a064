pub mod Items
pub mod Refusals
pub mod Faults
pub mod Tape
pub mod Sound
pub mod Runs
pub mod Examples
