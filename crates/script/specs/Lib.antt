pub mod Faults
pub mod Model
