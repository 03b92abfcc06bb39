pub mod Bags
pub mod Order
pub mod Parts
pub mod Steps
pub mod Turns
