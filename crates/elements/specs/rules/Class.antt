-- The names of the language and their numbers. Document 01, "Elements": "Kinds are numbered 1 to 25".
-- The names of parameters and of include and import are numbered from 26 on, so that one number, the class, says what a list led by a name is.
-- Class 0 is any other name.
use Rattle.std.specs.Prelude.{ℕ, Bool, not, cond, ◌&&◌, List, [], ◌∷◌, eqb, leb}
use Prim.Native.String.{String}
use Rattle.elements.specs.rules.Bytes.{codes, same}

abbrev pub document : ℕ
document = 1

abbrev pub part : ℕ
part = 2

abbrev pub section : ℕ
section = 3

abbrev pub subsection : ℕ
subsection = 4

abbrev pub paragraph : ℕ
paragraph = 5

abbrev pub formal_item : ℕ
formal_item = 6

abbrev pub footnote : ℕ
footnote = 7

abbrev pub title : ℕ
title = 8

abbrev pub text : ℕ
text = 9

abbrev pub term : ℕ
term = 10

abbrev pub image : ℕ
image = 11

abbrev pub verbatim : ℕ
verbatim = 12

abbrev pub link : ℕ
link = 13

abbrev pub link_ext : ℕ
link_ext = 14

abbrev pub footnote_ref : ℕ
footnote_ref = 15

abbrev pub list_ordered : ℕ
list_ordered = 16

abbrev pub list_unordered : ℕ
list_unordered = 17

abbrev pub item : ℕ
item = 18

abbrev pub table : ℕ
table = 19

abbrev pub summary : ℕ
summary = 20

abbrev pub head : ℕ
head = 21

abbrev pub name : ℕ
name = 22

abbrev pub body : ℕ
body = 23

abbrev pub row : ℕ
row = 24

abbrev pub cell : ℕ
cell = 25

abbrev pub id : ℕ
id = 26

abbrev pub type : ℕ
type = 27

abbrev pub target : ℕ
target = 28

abbrev pub size : ℕ
size = 29

abbrev pub include : ℕ
include = 30

abbrev pub import : ℕ
import = 31

pub record Named : Type 0 where
  pub class : ℕ
  pub spelled : List ℕ

unfoldable pub as_name : ℕ → String → Named
unfolding codes
as_name c s = record { class = c; spelled = codes s }

-- The names that lead a list. A text (9) is a symbol or quoted string, so `text` leads none.
unfoldable pub names : List Named
unfolding as_name
names =
    as_name document "document"
    ∷ as_name part "part"
    ∷ as_name section "section"
    ∷ as_name subsection "subsection"
    ∷ as_name paragraph "paragraph"
    ∷ as_name formal_item "formal-item"
    ∷ as_name footnote "footnote"
    ∷ as_name title "title"
    ∷ as_name term "term"
    ∷ as_name image "image"
    ∷ as_name verbatim "verbatim"
    ∷ as_name link "link"
    ∷ as_name link_ext "link-ext"
    ∷ as_name footnote_ref "footnote-ref"
    ∷ as_name list_ordered "list-ordered"
    ∷ as_name list_unordered "list-unordered"
    ∷ as_name item "item"
    ∷ as_name table "table"
    ∷ as_name summary "summary"
    ∷ as_name head "head"
    ∷ as_name name "name"
    ∷ as_name body "body"
    ∷ as_name row "row"
    ∷ as_name cell "cell"
    ∷ as_name id "id"
    ∷ as_name type "type"
    ∷ as_name target "target"
    ∷ as_name size "size"
    ∷ as_name include "include"
    ∷ as_name import "import"
    ∷ []

unfoldable pub class_in : List Named → List ℕ → ℕ
class_in [] bytes = 0
class_in (n ∷ ns) bytes = cond (same bytes n.spelled) n.class (class_in ns bytes)

-- The class of a list led by the symbol of these bytes.
unfoldable pub class_of : List ℕ → ℕ
class_of bytes = class_in names bytes

unfoldable pub name_in : List Named → ℕ → List ℕ
name_in [] c = []
name_in (n ∷ ns) c = cond (eqb c n.class) n.spelled (name_in ns c)

-- The name of a class, for printing.
unfoldable pub name_of : ℕ → List ℕ
name_of c = name_in names c

unfoldable pub is_kind : ℕ → Bool
is_kind c = leb 1 c && leb c 25

-- A list led by this class is an element: "Text (9) is a symbol or quoted string; every other kind is a list led by the symbol of its name."
unfoldable pub is_element : ℕ → Bool
is_element c = is_kind c && not (eqb c text)

-- The kind that a name leads, and 0 where it leads none.
unfoldable pub kind_of : List ℕ → ℕ
kind_of bytes = cond (is_kind (class_of bytes)) (class_of bytes) 0

-- "blocks are kinds 1 to 7"
unfoldable pub is_block : ℕ → Bool
is_block c = leb 1 c && leb c 7

-- "Significance: document 4, part 3, section 2, subsection 1, the other three 0." It is 0 of whatever is no block, too.
unfoldable pub significance : ℕ → ℕ
significance c =
    cond (eqb c document) 4
    (cond (eqb c part) 3
    (cond (eqb c section) 2
    (cond (eqb c subsection) 1 0)))
