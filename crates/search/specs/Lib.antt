pub mod Asked
pub mod Rows
pub mod Tests
pub mod Compiled
pub mod Planned
pub mod Building
