-- The lemmas that serve the contracts, in a folder for each source file: `read` serves lib.rt.
pub mod commands
pub mod fill
pub mod nested
pub mod read
pub mod tape
pub mod value
pub mod walk
