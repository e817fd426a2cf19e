pub mod Nodes
pub mod Explained
