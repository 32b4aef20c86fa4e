-- UTF-8 by the Unicode standard's table, as functions that can be computed. They need not be believed: `proofs/Agree.antt` has them equal to the rules.
pub mod Sequence
