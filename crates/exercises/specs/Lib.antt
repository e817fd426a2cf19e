pub mod Tokens
pub mod Meant
pub mod Order
pub mod Lines
pub mod Printed
pub mod Book
pub mod Next
pub mod Answer
