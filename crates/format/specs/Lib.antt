pub mod Form
pub mod Kinds
pub mod Taking
pub mod Parts
pub mod Views
