-- Laws that several source files and other crates cite.
pub mod Arms
pub mod Chosen
