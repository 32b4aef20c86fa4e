-- The scan of a text, as a function that can be computed. It need not be believed: `proofs/SyntaxAccepted.antt`, `proofs/SyntaxOrFault.antt` and
-- `proofs/FaultsRefused.antt` have it equal to the rules.
pub mod Scan
