pub mod Accepting
pub mod Listing
pub mod Lines
pub mod Turns
pub mod Frames
