pub mod Formed
pub mod Turns
pub mod Whole
pub mod Railed
pub mod Three
pub mod Claims
