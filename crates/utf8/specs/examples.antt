-- What quoted text is read as in examples, and what counts for line and column once more as a plain table. They judge the definitions.
pub mod Quoted
pub mod Plain
