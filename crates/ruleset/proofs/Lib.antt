pub mod Numbers
pub mod Coding
pub mod Counting
pub mod Adding
pub mod Planning
pub mod Writings
pub mod Scanning
pub mod Claims
