-- `name::name_at` meets its contract, by the first byte.
use native.Mathlib.Omega.{arith}
use Rattle.elements.specs.rules.Bytes.{codes, same}
use Rattle.elements.specs.rules.Class.{names, as_name, class_in, class_of}
use Rattle.syntax.specs.rules.Byte.{byte_class, blank_class, ordinary_class, is_blank, is_ordinary}
use Rattle.syntax.specs.rules.Syntax.{are_ordinary}
use Rattle.lexer.proofs.Names.{is_name_like, only_told}
use Rattle.lexer.proofs.name.name_at.Goals as goal

pub returns-in-98 : goal.returns-in-98
unfolding are_ordinary as_name blank_class byte_class class_in class_of codes is_blank is_name_like is_ordinary names ordinary_class same
returns-in-98 c = only_told c.args.text.now c.args.from 0x62 (codes "ody") tt
    (omega arith) c.in-98.is c.only.ensures c.named.ensures

pub returns-in-99 : goal.returns-in-99
unfolding are_ordinary as_name blank_class byte_class class_in class_of codes is_blank is_name_like is_ordinary names ordinary_class same
returns-in-99 c = only_told c.args.text.now c.args.from 0x63 (codes "ell") tt
    (omega arith) c.in-99.is c.only-in-99.ensures c.named-in-99.ensures

pub returns-in-104 : goal.returns-in-104
unfolding are_ordinary as_name blank_class byte_class class_in class_of codes is_blank is_name_like is_ordinary names ordinary_class same
returns-in-104 c = only_told c.args.text.now c.args.from 0x68 (codes "ead") tt
    (omega arith) c.in-104.is c.only-in-104.ensures c.named-in-104.ensures

pub returns-in-110 : goal.returns-in-110
unfolding are_ordinary as_name blank_class byte_class class_in class_of codes is_blank is_name_like is_ordinary names ordinary_class same
returns-in-110 c = only_told c.args.text.now c.args.from 0x6E (codes "ame") tt
    (omega arith) c.in-110.is c.only-in-110.ensures c.named-in-110.ensures

pub returns-in-114 : goal.returns-in-114
unfolding are_ordinary as_name blank_class byte_class class_in class_of codes is_blank is_name_like is_ordinary names ordinary_class same
returns-in-114 c = only_told c.args.text.now c.args.from 0x72 (codes "ow") tt
    (omega arith) c.in-114.is c.only-in-114.ensures c.named-in-114.ensures

pub returns-in-115 : goal.returns-in-115
unfolding are_ordinary as_name blank_class byte_class class_in class_of codes is_blank is_name_like is_ordinary names ordinary_class same
returns-in-115 c = only_told c.args.text.now c.args.from 0x73 (codes "ize") tt
    (omega arith) c.in-115.is c.only-in-115.ensures c.named-in-115.ensures

pub returns-in-118 : goal.returns-in-118
unfolding are_ordinary as_name blank_class byte_class class_in class_of codes is_blank is_name_like is_ordinary names ordinary_class same
returns-in-118 c = only_told c.args.text.now c.args.from 0x76 (codes "erbatim") tt
    (omega arith) c.in-118.is c.only-in-118.ensures c.named-in-118.ensures
