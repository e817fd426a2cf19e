pub mod Gather
pub mod Ninth
pub mod Steps
