-- What is promised of the functions (Demands), and what the calls from C and Rust return and leave (Calls). Both are to be believed.
pub mod Demands
pub mod Calls
-- rules: what the pair of reading and the check answers, by the rules alone.
pub mod rules
