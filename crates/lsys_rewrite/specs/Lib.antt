pub mod Faults
pub mod Filled
pub mod Cutting
