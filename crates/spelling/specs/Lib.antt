pub mod Symbols
pub mod Kept
pub mod Comparing
