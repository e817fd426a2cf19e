pub mod Code
pub mod Rails
