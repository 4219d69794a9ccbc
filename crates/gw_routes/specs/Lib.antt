pub mod Addresses
pub mod Codes
pub mod Hosts
pub mod Kinds
pub mod Names
pub mod Files
pub mod Routes
