-- Lemmas of src/string.rt: a string read piece by piece.
pub mod StringSteps
