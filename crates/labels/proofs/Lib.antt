pub mod Bounds
pub mod Decimals
pub mod Found
pub mod Behind
pub mod Made
