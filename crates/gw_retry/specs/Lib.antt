pub mod Retry
