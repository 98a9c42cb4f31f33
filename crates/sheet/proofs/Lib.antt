pub mod Multiplying
pub mod Results
pub mod Paths
pub mod Stepping
mod Weighing
