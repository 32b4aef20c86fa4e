-- The spellings and the memory that is lent as the definitions have them (Lending), and what a read answers for a program (Reading).
pub mod Lending
pub mod Reading
