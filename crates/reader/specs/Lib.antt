-- `Read`: what the public functions promise. `Demand`: what a call answered and left in the lent memory. `internal`: serves the contracts of private functions.
pub mod Read
pub mod internal
