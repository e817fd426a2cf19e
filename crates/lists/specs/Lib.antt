pub mod Search
pub mod Often
pub mod Padded
pub mod Buffer
pub mod Putting
