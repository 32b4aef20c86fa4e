-- Lemmas of src/run.rt: runs of the bytes of a string that stand for themselves.
pub mod PlainRuns
