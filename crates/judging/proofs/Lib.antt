pub mod Numbers
pub mod Atoms
pub mod Rules
pub mod Judging
pub mod Claims
