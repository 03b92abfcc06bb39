pub mod Rest
pub mod Lone
