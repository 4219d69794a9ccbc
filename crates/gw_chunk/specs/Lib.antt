pub mod Bytes
pub mod Chunked
pub mod ErrorText
pub mod Fed
pub mod Laws
pub mod Lines
pub mod Part
pub mod Position
