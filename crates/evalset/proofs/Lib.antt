pub mod Bits
pub mod Walk
pub mod Members
pub mod Words
pub mod Table
pub mod Arrays
