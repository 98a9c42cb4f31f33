pub mod Lists
pub mod Shuffles
pub mod Decks
pub mod Rows
