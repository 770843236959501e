pub mod Hexadecimal
pub mod Frames
pub mod TextLaws
pub mod Examples
