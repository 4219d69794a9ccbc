mod Formed
pub mod Parts
mod Rows
mod Said
mod Spelling
pub mod Tidy
mod Walked
