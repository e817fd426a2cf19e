pub mod Choosing
pub mod Meeting
pub mod Keeping
pub mod Gathering
pub mod Trying
pub mod Claims
