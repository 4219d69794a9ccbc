pub mod Calls
pub mod Gate
pub mod Seat
pub mod Steps
