pub mod Fault
pub mod Grammar
pub mod Pattern
pub mod Text
pub mod Path
pub mod Walk
