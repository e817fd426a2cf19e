pub mod Parts
pub mod Standing
pub mod Lines
pub mod Examples
pub mod Claims
