-- `rules` is what a reader of the proofs has to believe. `examples` has computed examples and plain tables.
pub mod rules
pub mod examples
