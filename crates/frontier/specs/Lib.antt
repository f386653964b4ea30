pub mod Heap
pub mod Keys
