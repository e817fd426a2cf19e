pub mod Trees
pub mod Closed
pub mod Refusal
pub mod Written
pub mod OfRules
pub mod Checker
pub mod Branch
