pub mod Attaining
pub mod Deciding
pub mod Exceeding
pub mod Fitting
pub mod Framing
pub mod Heading
pub mod Moving
pub mod Naming
