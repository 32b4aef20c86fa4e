-- What a reader of the proofs has to believe: which texts are UTF-8, and the line and the column of a place. No decoder is in it.
pub mod Scalar
pub mod Position
