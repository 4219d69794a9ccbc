pub mod Births
pub mod Facts
pub mod Members
pub mod Moments
pub mod Passing
pub mod Soundness
pub mod WorkedTree
