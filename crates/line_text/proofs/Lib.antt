pub mod Hex
pub mod OneLine
pub mod Rows
pub mod Laid
pub mod Blank
pub mod OneMore
pub mod Blanks
pub mod Counts
