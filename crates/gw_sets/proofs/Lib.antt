pub mod Deciding
pub mod Parts
pub mod Products
pub mod Requests
mod Rows
pub mod Segments
