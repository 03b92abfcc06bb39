pub mod State
pub mod Laid
pub mod Told
pub mod Seats
pub mod Ending
