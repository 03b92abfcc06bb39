pub mod Accounts
pub mod Hands
pub mod Order
pub mod Sides
