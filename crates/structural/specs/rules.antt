-- What a reader of the proofs has to believe beside the rules of `document`.
-- PairAccount: what the pair of reading and the check answers, case by case.
pub mod PairAccount
