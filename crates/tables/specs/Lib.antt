pub mod Places
pub mod Locks
pub mod Names
pub mod Entries
