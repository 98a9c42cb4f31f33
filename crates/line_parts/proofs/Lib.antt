pub mod Acting
pub mod Branching
