-- Definitions that serve the contracts of private functions.
-- Table: the rows of elements as the code has them (rows.rt).
pub mod Table
