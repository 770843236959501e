pub mod Frame
pub mod Texts
pub mod Bench
