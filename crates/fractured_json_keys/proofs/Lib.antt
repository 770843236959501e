pub mod MetBefore
pub mod ChainLaws
pub mod Chained
