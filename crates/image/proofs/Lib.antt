pub mod Stores
pub mod News
pub mod Words
