pub mod Values
pub mod Judges
