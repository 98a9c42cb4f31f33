pub mod Exceeding
pub mod Named
pub mod Owned
pub mod Whole
