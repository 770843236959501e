pub mod Told
pub mod Slots
pub mod Walks
pub mod Checks
pub mod MarkLaws
pub mod Examples
