-- Lemmas for tape.rt: the tape that a walk leaves, and which of its entries a walk changes.
pub mod AfterWalk
pub mod ChangedEntries
