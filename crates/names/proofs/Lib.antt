pub mod Scans
pub mod Arrays
pub mod Tokens
pub mod Gathering
pub mod Outcome
pub mod Places
pub mod Texts
pub mod Claims
