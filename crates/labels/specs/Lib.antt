pub mod Characters
pub mod Kinds
pub mod Layout
pub mod Reading
pub mod Fields
pub mod Contents
pub mod Made
pub mod Laws
