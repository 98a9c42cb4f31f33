pub mod Views
pub mod Batches
pub mod Turns
pub mod Nodes
