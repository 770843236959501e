pub mod Told
pub mod Decoded
pub mod Written
