mod Elements
mod Lengths
mod LineOrder
mod Mapping
mod Placing
mod Rows
mod Searches
mod Sorting
mod Stripping
mod Tables
pub mod Facts
