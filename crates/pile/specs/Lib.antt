pub mod Piles
pub mod Layers
pub mod Runs
