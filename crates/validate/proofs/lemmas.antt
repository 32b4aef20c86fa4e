-- The lemmas that serve the contracts, in a folder for each source file: `check` serves lib.rt, and `records` serves record.rt, since antt reserves the word `record`.
pub mod values
pub mod index
pub mod records
pub mod faults
pub mod draft
pub mod check
