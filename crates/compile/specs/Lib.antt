pub mod Kinds
pub mod Chart
pub mod Machine
pub mod Compiles
pub mod Signs
pub mod Stack
