pub mod Places
pub mod Backs
