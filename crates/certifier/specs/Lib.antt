pub mod Certification
pub mod Promise
