pub mod Lawful
pub mod Positions
pub mod Entries
