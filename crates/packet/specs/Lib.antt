pub mod Faults
pub mod Commands
pub mod Packets
pub mod Views
