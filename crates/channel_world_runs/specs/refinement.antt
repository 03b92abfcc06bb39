pub mod Refines
pub mod Asked
pub mod Over
pub mod Opening
