-- Lemmas for lib.rt, the check of a table.
-- The answers of the check, where the words and the pool are a draft's table and where they are not.
pub mod CheckAnswers
