mod Padding
pub mod Names
pub mod Drafts
pub mod Runs
pub mod Spelled
pub mod BuildSteps
pub mod WrittenStrings
pub mod Scanned
pub mod ScanSteps
pub mod PrintedTexts
pub mod Forms
pub mod StringPlaces
pub mod CountSteps
pub mod Counted
