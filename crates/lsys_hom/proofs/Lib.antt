pub mod Rules
pub mod Templates
pub mod Named
pub mod Passing
mod Looking
pub mod Wholes
pub mod Runs
