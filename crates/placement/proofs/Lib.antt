pub mod Inverse
pub mod Lists
