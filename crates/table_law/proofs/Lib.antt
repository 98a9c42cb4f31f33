pub mod Unlaid
pub mod Bounds
pub mod Free
