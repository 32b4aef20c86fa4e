-- What printing promises (Prints), and definitions that serve private contracts (internal).
pub mod Prints
pub mod internal
