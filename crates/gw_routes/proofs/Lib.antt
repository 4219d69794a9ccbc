pub mod AddressLemmas
pub mod AddressTexts
mod HostLemmas
pub mod JsonLemmas
pub mod PlacingLemmas
mod Numbering
mod Rows
