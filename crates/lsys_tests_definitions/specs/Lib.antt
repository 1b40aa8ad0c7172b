pub mod Worked
pub mod Versions
pub mod Desks
