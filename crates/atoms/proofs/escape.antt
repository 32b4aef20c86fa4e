-- Lemmas of src/escape.rt: the values of hexadecimal digits.
pub mod HexValues
