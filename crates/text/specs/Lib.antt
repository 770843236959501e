pub mod Comparing
pub mod Hash
pub mod Steps
pub mod Swapped
