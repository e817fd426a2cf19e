pub mod Heap
pub mod Filled
