-- `rules` is what a reader of the proofs has to believe. `reference` can be computed and is proved equal to the rules, so it need not be believed.
-- `examples` has computed examples and plain tables.
pub mod rules
pub mod reference
pub mod examples
