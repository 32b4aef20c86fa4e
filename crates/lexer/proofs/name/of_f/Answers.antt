-- `name::of_f` meets its contract: each word is told where it stands.
use mathlib.Core.Path.{sym, ◌∙◌}
use Rattle.elements.specs.rules.Bytes.{codes, same}
use Rattle.elements.specs.rules.Class.{names, as_name, class_in, class_of}
use Rattle.syntax.specs.rules.Byte.{byte_class, blank_class, ordinary_class, is_blank, is_ordinary}
use Rattle.syntax.specs.rules.Syntax.{are_ordinary}
use Rattle.lexer.proofs.Names.{is_name_like, name_told}
use Rattle.lexer.proofs.name.of_f.Goals as goal

pub returns-then-follows : goal.returns-then-follows
unfolding are_ordinary as_name blank_class byte_class class_in class_of codes is_blank is_name_like is_ordinary names ordinary_class same
returns-then-follows c = name_told c.args.text.now c.args.i 0x66 (codes "ootnote") tt
    c.requires.0 c.requires.1 (sym c.follows.ensures ∙ c.if-follows.true) c.named.ensures

pub returns-then-follows-2 : goal.returns-then-follows-2
unfolding are_ordinary as_name blank_class byte_class class_in class_of codes is_blank is_name_like is_ordinary names ordinary_class same
returns-then-follows-2 c = name_told c.args.text.now c.args.i 0x66 (codes "ootnote-ref") tt
    c.requires.0 c.requires.1 (sym c.follows-2.ensures ∙ c.if-follows-2.true) c.named-then-follows-2.ensures
