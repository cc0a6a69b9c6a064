pub mod Words
pub mod Blank
