pub mod Tables
pub mod Opening
pub mod Numbering
pub mod Carried
pub mod Forms
pub mod Walks
pub mod Headers
pub mod KeyHeads
