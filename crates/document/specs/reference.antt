-- What reading, checking and printing answer, as functions that can be computed, and what well-formed means in plain statements. None of it need be
-- believed: `proofs` has each equal to the rules.
pub mod RulesTest
pub mod Meaning
pub mod Imperative
pub mod Check
pub mod Outcome
pub mod Printing
pub mod Pair
pub mod Prose
