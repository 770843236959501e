pub mod Told
pub mod Slots
pub mod Walks
pub mod Taken
