-- The digits and the characters of types, ids and URIs once more, written out. `Characters` has them as ranges; that both agree on all 256 bytes is computed in
-- `proofs/PlainCharacters.antt`. A rule that is misread has to be misread twice, in two shapes. Document 01, "Elements" and its settlements.
use Prim.Native.String.{String}

-- The digits, of types, ids and sizes.
unfoldable pub of_digit : String
of_digit = "0123456789"

-- "Type characters: letters, digits, `_`", which are ASCII only.
unfoldable pub of_type : String
of_type = "ABCDEFGHIJKLMNOPQRSTUVWXYZabcdefghijklmnopqrstuvwxyz0123456789_"

-- "ids and the targets of link and footnote-ref add `-` and `.`"
unfoldable pub of_id : String
of_id = "ABCDEFGHIJKLMNOPQRSTUVWXYZabcdefghijklmnopqrstuvwxyz0123456789_-."

-- "A URI target is one or more bytes 0x21 to 0x7E."
unfoldable pub of_uri : String
of_uri = "!\"#$%&'()*+,-./0123456789:;<=>?@ABCDEFGHIJKLMNOPQRSTUVWXYZ[\\]^_`abcdefghijklmnopqrstuvwxyz{|}~"
