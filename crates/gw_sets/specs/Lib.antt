pub mod Shape
pub mod Matches
pub mod Relation
pub mod Comparison
