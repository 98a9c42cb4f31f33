pub mod Bytes
pub mod Listing
pub mod Joining
pub mod Orders
pub mod Shuffling
pub mod Powers
pub mod Kinding
pub mod Inversion
