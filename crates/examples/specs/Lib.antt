pub mod Pool
pub mod Sends
