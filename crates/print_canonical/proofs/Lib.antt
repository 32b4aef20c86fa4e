-- What `tidy` prints of a document that was read (Tidying).
pub mod Tidying
