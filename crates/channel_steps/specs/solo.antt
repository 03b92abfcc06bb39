pub mod Alone
pub mod Run
pub mod Configurations
pub mod Ample
