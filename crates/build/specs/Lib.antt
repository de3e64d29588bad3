pub mod Refusals
pub mod Builds
