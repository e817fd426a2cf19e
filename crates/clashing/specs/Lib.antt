pub mod Clash
pub mod Clashing
pub mod Steps
