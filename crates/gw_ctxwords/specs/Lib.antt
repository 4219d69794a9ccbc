pub mod Calls
pub mod Nodes
pub mod Rule
pub mod Steps
pub mod Words
