pub mod Faults
pub mod Phases
pub mod Views
