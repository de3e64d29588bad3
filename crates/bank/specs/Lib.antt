pub mod Sectors
pub mod Banks
pub mod Soundness
