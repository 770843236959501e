pub mod Headers
pub mod Naming
pub mod Openings
