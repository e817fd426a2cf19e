pub mod Lent
pub mod Lines
pub mod Output
pub mod Pieces
pub mod Printed
pub mod Putting
