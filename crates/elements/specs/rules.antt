-- What a reader of the proofs has to believe: the names and numbers of the language, and the table "Elements" of document 01.
pub mod Bytes
pub mod Characters
pub mod Class
pub mod Rules
pub mod Inside
