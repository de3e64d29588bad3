pub mod Stores
pub mod Notes
pub mod Drives
