-- Laws that several source files and other crates cite: the pieces and contents of strings.
pub mod PieceAt
pub mod Contents
