-- Laws that several source files and other crates cite: white space, what is seen at a place, names told by their first bytes, and the scan step by step.
pub mod Blanks
pub mod Looks
pub mod Names
pub mod ScanSteps
