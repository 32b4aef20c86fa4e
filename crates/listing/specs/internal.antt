-- What functions leave that put bytes into an output (Puts).
pub mod Puts
