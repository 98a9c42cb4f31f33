pub mod Certificates
pub mod Faults
pub mod Walks
