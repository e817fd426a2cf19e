pub mod Same
pub mod Claims
