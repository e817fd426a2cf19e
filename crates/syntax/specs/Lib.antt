pub mod Symbol
pub mod Grammar
pub mod Refusal
pub mod RuleText
pub mod Postfix
pub mod Machine
pub mod Reader
pub mod Rule
