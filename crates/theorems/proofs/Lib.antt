pub mod Demands
pub mod Room
pub mod Order
pub mod Worked
pub mod Claims
