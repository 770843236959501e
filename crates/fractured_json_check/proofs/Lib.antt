pub mod CheckedKeys
pub mod CheckWalk
pub mod Stored
pub mod Checks
pub mod Examples
