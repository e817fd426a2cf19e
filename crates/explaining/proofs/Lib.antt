pub mod Values
pub mod Closings
pub mod Puts
