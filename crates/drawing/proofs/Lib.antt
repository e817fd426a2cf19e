pub mod Bounds
pub mod Sizes
pub mod Drawing
pub mod Claims
