pub mod Metas
pub mod Objects
