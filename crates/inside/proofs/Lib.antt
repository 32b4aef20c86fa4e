-- Laws that several source files and other crates cite: the table of elements as code, and the steps of an element.
pub mod Table
pub mod Steps
pub mod Children
pub mod Taken
