-- What `tidy` prints (Tidying).
pub mod Tidying
