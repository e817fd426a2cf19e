pub mod Sums
pub mod Words
pub mod Masks
pub mod Listed
