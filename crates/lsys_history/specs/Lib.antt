pub mod Desks
pub mod Costs
pub mod DeskExamples
pub mod LedBack
pub mod CostsOfDesks
pub mod Timelines
