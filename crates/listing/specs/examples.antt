-- Computed examples: texts and what is printed on them (Listings).
pub mod Listings
