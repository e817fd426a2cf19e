pub mod Terms
pub mod Atoms
pub mod Second
pub mod Rows
pub mod Scan
pub mod Storing
pub mod Claims
