pub mod Refusals
pub mod Tracks
pub mod Shifts
pub mod Uses
pub mod Windows
pub mod Owned
