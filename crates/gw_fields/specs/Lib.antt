pub mod Fields
pub mod Hops
pub mod Laws
pub mod Lines
pub mod Lists
pub mod Names
pub mod Order
