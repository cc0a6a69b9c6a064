pub mod Amounts
pub mod Gave
pub mod Summed
pub mod Works
