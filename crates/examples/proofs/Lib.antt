-- That each example is answered as it says, by computation.
pub mod Faults
pub mod Sizes
pub mod Listings
