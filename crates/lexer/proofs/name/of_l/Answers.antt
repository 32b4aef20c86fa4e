-- `name::of_l` meets its contract: each word is told where it stands.
use mathlib.Core.Path.{sym, ◌∙◌}
use Rattle.elements.specs.rules.Bytes.{codes, same}
use Rattle.elements.specs.rules.Class.{names, as_name, class_in, class_of}
use Rattle.syntax.specs.rules.Byte.{byte_class, blank_class, ordinary_class, is_blank, is_ordinary}
use Rattle.syntax.specs.rules.Syntax.{are_ordinary}
use Rattle.lexer.proofs.Names.{is_name_like, name_told}
use Rattle.lexer.proofs.name.of_l.Goals as goal

pub returns-then-follows : goal.returns-then-follows
unfolding are_ordinary as_name blank_class byte_class class_in class_of codes is_blank is_name_like is_ordinary names ordinary_class same
returns-then-follows c = name_told c.args.text.now c.args.i 0x6C (codes "ink") tt
    c.requires.0 c.requires.1 (sym c.follows.ensures ∙ c.if-follows.true) c.named.ensures

pub returns-then-follows-2 : goal.returns-then-follows-2
unfolding are_ordinary as_name blank_class byte_class class_in class_of codes is_blank is_name_like is_ordinary names ordinary_class same
returns-then-follows-2 c = name_told c.args.text.now c.args.i 0x6C (codes "ist-unordered") tt
    c.requires.0 c.requires.1 (sym c.follows-2.ensures ∙ c.if-follows-2.true) c.named-then-follows-2.ensures

pub returns-then-follows-3 : goal.returns-then-follows-3
unfolding are_ordinary as_name blank_class byte_class class_in class_of codes is_blank is_name_like is_ordinary names ordinary_class same
returns-then-follows-3 c = name_told c.args.text.now c.args.i 0x6C (codes "ist-ordered") tt
    c.requires.0 c.requires.1 (sym c.follows-3.ensures ∙ c.if-follows-3.true) c.named-then-follows-3.ensures

pub returns-then-follows-4 : goal.returns-then-follows-4
unfolding are_ordinary as_name blank_class byte_class class_in class_of codes is_blank is_name_like is_ordinary names ordinary_class same
returns-then-follows-4 c = name_told c.args.text.now c.args.i 0x6C (codes "ink-ext") tt
    c.requires.0 c.requires.1 (sym c.follows-4.ensures ∙ c.if-follows-4.true) c.named-then-follows-4.ensures
