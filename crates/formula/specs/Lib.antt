pub mod Sign
pub mod Formula
pub mod Atoms
pub mod Names
pub mod Same
