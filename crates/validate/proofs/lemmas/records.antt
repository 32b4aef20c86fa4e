-- Lemmas for the functions of record.rt, the tests of one record.
-- Answers that tell whether something holds.
pub mod Decided
-- The tests of one record.
pub mod RecordTests
-- The record of a node that stands in a table, and the node that a record is of.
pub mod NodeRecords
