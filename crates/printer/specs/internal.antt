-- Definitions that serve the contracts of private functions.
pub mod Appends
pub mod Inside
pub mod Pieces
pub mod Raw
