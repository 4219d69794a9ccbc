pub mod Walks
mod Advancing
mod Sizes
mod LineForms
mod Feeds
mod Framing
mod Given
mod FieldForms
mod Forward
mod Faults
mod Parsing
pub mod TextLaws
pub mod Parts
pub mod CodedLaws
mod Rows
pub mod Facts
