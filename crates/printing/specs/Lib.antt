pub mod Tokens
pub mod Text
pub mod Prints
pub mod Jobs
pub mod Places
