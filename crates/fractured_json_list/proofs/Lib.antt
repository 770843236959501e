pub mod NameLaws
pub mod FindLaws
pub mod PassLaws
pub mod Alike
pub mod CheckLaws
