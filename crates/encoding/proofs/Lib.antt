pub mod WordLaws
pub mod Examples
