pub mod Work
pub mod Did
pub mod Laws
