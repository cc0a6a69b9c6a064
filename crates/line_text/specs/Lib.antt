pub mod Lines
pub mod Layout
pub mod Spans
pub mod Facts
