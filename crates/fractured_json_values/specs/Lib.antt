pub mod Heads
pub mod Opened
