pub mod Laid
pub mod Headed
pub mod Naming
pub mod Asking
