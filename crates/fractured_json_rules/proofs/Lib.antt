pub mod ByteTables
pub mod Examples
