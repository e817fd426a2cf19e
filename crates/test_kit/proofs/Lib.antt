pub mod Putting
pub mod Every
