-- What stands at a place of a text (Token), and definitions that serve private contracts (internal).
pub mod Token
pub mod internal
