pub mod Taking
mod Parts
mod Readings
mod Writing
mod Rows
pub mod Facts
