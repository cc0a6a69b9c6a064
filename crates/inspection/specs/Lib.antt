pub mod Pieces
pub mod Amounts
pub mod Lines
pub mod Refused
pub mod Items
pub mod Account
pub mod Walked
pub mod Opened
