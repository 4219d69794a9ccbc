pub mod Body
pub mod Framing
pub mod Laws
pub mod Part
pub mod Places
pub mod Taken
pub mod Written
