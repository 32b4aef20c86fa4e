-- Texts and tables with their whole outcomes, which are computed, and values once more as plain tables. They judge the definitions.
pub mod Expected
pub mod Judged
pub mod Outcomes
pub mod Printing
pub mod Plain
