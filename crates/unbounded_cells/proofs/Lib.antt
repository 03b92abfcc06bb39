mod Blocks
mod Steps
mod Room
mod SpareList
mod SlotSteps
mod WordSteps
mod SeatSteps
mod SeatStays
mod CallSteps
mod Absent
mod CountSteps
mod SpareSteps
mod Rounds
mod Parties
pub mod CallsEnd
