pub mod Tie
pub mod Meeting
pub mod Laws
pub mod Turn
pub mod Steps
pub mod Pass
