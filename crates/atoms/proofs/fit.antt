-- Lemmas of src/fit.rt: whether what a symbol or string stands for are characters of a sort.
pub mod CharactersFit
