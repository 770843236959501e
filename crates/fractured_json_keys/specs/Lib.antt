pub mod Chains
pub mod Passed
