pub mod Ends
pub mod Counted
pub mod Texts
pub mod Places
