pub mod Faults
pub mod Images
pub mod Heads
pub mod Wholes
pub mod Makes
pub mod Owned
