pub mod Passing
pub mod Finding
