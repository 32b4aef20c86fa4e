-- What the listing programs print (Listing), texts with what is printed on them (examples), and definitions that serve private contracts (internal).
pub mod Listing
pub mod examples
pub mod internal
