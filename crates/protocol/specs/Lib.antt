pub mod Machine
pub mod States
pub mod Tree
pub mod Table
pub mod Samples
pub mod Promises
