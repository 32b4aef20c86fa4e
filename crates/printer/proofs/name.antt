-- Lemmas of src/name.rt.
pub mod ClassNames
