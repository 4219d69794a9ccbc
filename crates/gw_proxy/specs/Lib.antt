pub mod Asked
pub mod Date
pub mod Laws
pub mod Lines
pub mod OutReply
pub mod OutRequest
pub mod Read
pub mod Texts
