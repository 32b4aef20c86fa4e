-- Computed examples beyond those of document 01: texts with their answers, and texts and tables built by number.
pub mod Faults
pub mod Sizes
pub mod Listings
