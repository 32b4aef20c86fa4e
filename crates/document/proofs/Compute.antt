-- Opens every definition that the answer of a read or of printing goes through, module by module: a statement that is computed says `unfolding computes`.
use lib.Count.{count_leading_zeros}
use Rattle.utf8.specs.rules.Scalar
use Rattle.utf8.specs.reference.Sequence
use Rattle.utf8.specs.rules.Position
use Rattle.elements.specs.rules.Bytes
use Rattle.elements.specs.rules.Class
use Rattle.elements.specs.rules.Rules
use Rattle.elements.specs.rules.Characters
use Rattle.elements.specs.rules.Inside
use Rattle.syntax.specs.rules.Byte
use Rattle.syntax.specs.rules.Syntax
use Rattle.syntax.specs.rules.Expression
use Rattle.syntax.specs.reference.Scan
use Rattle.document.specs.rules.Value
use Rattle.document.specs.rules.Document
use Rattle.document.specs.reference.RulesTest
use Rattle.document.specs.rules.Spelling
use Rattle.document.specs.rules.Lead
use Rattle.document.specs.reference.Meaning
use Rattle.document.specs.rules.Command
use Rattle.document.specs.reference.Imperative
use Rattle.document.specs.rules.Table
use Rattle.document.specs.rules.Visits
use Rattle.document.specs.reference.Check
use Rattle.document.specs.rules.Memory
use Rattle.document.specs.reference.Outcome
use Rattle.document.specs.rules.Canonical
use Rattle.document.specs.reference.Printing
use Rattle.document.specs.rules.Pair as PairRules
use Rattle.document.specs.reference.Pair

unfoldable scalar : Unit {0}
unfolding Scalar.is_scalar Scalar.encode Scalar.encode_all Scalar.all_scalar
scalar = tt

unfoldable sequence : Unit {0}
unfolding Sequence.leading_ones Sequence.within Sequence.forms Sequence.begins Sequence.first_form Sequence.sequence_length Sequence.valid_from
    Sequence.valid_up_to
sequence = tt

unfoldable position : Unit {0}
unfolding Position.has_line_feed Position.line_feeds Position.line_of Position.last_line Position.is_continuation Position.characters Position.column_of
position = tt

unfoldable bytes : Unit {0}
unfolding Bytes.codes Bytes.same Bytes.among
bytes = tt

unfoldable class : Unit {0}
unfolding Class.as_name Class.names Class.class_in Class.class_of Class.name_in Class.name_of Class.is_kind Class.is_element Class.kind_of
    Class.is_block Class.significance
class = tt

unfoldable rules : Unit {0}
unfolding Rules.alternatives_of Rules.rules Rules.rule_in Rules.rule_of
rules = tt

unfoldable inside : Unit {0}
unfolding Inside.is_include Inside.some_has Inside.allows Inside.chosen Inside.first_child_step Inside.next_child_step Inside.next_parameter Inside.step Inside.start
    Inside.none_required Inside.may_be_empty Inside.ended
inside = tt

unfoldable byte : Unit {0}
unfolding Byte.byte_class Byte.open_byte Byte.close_byte Byte.same_bracket Byte.blank_class Byte.ordinary_class Byte.is_blank Byte.is_ordinary Byte.is_raw
byte = tt

unfoldable syntax : Unit {0}
unfolding Syntax.piece_before Syntax.pieces_before Syntax.leaf_before Syntax.bytes_before Syntax.bytes_of Syntax.is_hex Syntax.hex_digit Syntax.hex_value
    Syntax.is_piece Syntax.are_pieces Syntax.are_ordinary Syntax.is_leaf Syntax.after Syntax.may_follow Syntax.levels Syntax.letter_value Syntax.piece_value
    Syntax.pieces_value
syntax = tt

unfoldable expression : Unit {0}
unfolding Expression.place Expression.locate_leaf Expression.locate Expression.depth
expression = tt

unfoldable scan : Unit {0}
unfolding Scan.ordinary_run Scan.escape_at Scan.piece Scan.quoted_from Scan.quoted_item Scan.item_at Scan.items_from Scan.add_leaf Scan.wrap Scan.end_level
    Scan.at_end Scan.one_more Scan.one_less Scan.build Scan.outermost Scan.scan
scan = tt

unfoldable value : Unit {0}
unfolding Value.non_empty Value.every Characters.is_digit Characters.is_letter Characters.type_character Characters.id_character Characters.uri_character Value.names_block
    Value.target_character Value.is_value Value.is_size Value.decimal_after Value.is_decimal
value = tt

unfoldable document : Unit {0}
unfolding Document.tree_class Document.key_of Document.type_of Document.width_or Document.height_or Document.key_in Document.type_in
    Document.width_in Document.height_in Document.is_node Document.says
document = tt

unfoldable rulestest : Unit {0}
unfolding RulesTest.is_text RulesTest.step_goes_on RulesTest.keeps_rules RulesTest.is_document
rulestest = tt

unfoldable spelling : Unit {0}
unfolding Spelling.holds_text Spelling.is_block_parameter Spelling.most_levels Lead.lead_class Lead.list_class Lead.expr_class
spelling = tt

unfoldable meaning : Unit {0}
unfolding Meaning.text_bytes Meaning.symbol_bytes Meaning.only_one Meaning.number_of Meaning.size_tree Meaning.value_tree Meaning.fault_at Meaning.advance
    Meaning.finish Meaning.judge_value Meaning.judge_root Meaning.tree_of Meaning.judge Meaning.places
meaning = tt

unfoldable command : Unit {0}
unfolding Command.is_command Command.as_not_allowed Command.loose Command.in_command Command.join Command.block
command = tt

unfoldable imperative : Unit {0}
unfolding Imperative.parameters Imperative.spelled_as Imperative.flatten Imperative.still_open Imperative.child_of Imperative.opened
    Imperative.at_innermost Imperative.contents_of Imperative.innermost Imperative.regroup
imperative = tt

unfoldable table : Unit {0}
unfolding Table.offset Table.table_of Table.count Table.pool Table.rows
table = tt

unfoldable wellformed : Unit {0}
unfolding Check.or_else Visits.child_count Check.head_cells Check.cells_in Check.differs Check.cells_below Check.holds_id
    Check.is_among Check.found_repeated_id Check.ids_where Check.found_unknown_target Check.found_unknown_link Check.found_unknown_footnote
    Check.checked_by Check.check Check.found_bad_row Check.entries
wellformed = tt

unfoldable memory : Unit {0}
unfolding Memory.answer_at Memory.refusal Memory.no_room Memory.over Memory.filled Memory.node_room
memory = tt

unfoldable outcome : Unit {0}
unfolding Outcome.is_too_deep Outcome.judged Outcome.one_expression Outcome.after_scan Outcome.reading Outcome.stored
    Outcome.after_reading Outcome.outcome
outcome = tt

unfoldable canonical : Unit {0}
unfolding Canonical.value_before Canonical.size_before Canonical.key_class Canonical.node_first Canonical.place_values Canonical.hex_byte
    Canonical.unicode_before Canonical.byte_before Canonical.bytes_before Canonical.quoted_before Canonical.digit Canonical.digits
    Canonical.brackets_before Canonical.string_before Canonical.canonical Canonical.layout Canonical.spelled_before Canonical.tree_levels
canonical = tt

unfoldable printing : Unit {0}
unfolding Printing.part Printing.below Printing.not_below Printing.add_record Printing.rebuild Printing.candidate Printing.has_draft Printing.tree_of_table Printing.is_there
    Printing.draft_of Printing.checked_as Printing.checked_of Printing.checking Printing.written Printing.printed_of Printing.printing
printing = tt

unfoldable pair : Unit {0}
unfolding PairRules.place_of PairRules.pair_answer Pair.check_left Pair.paired
pair = tt

unfoldable pub computes : Unit {0}
unfolding count_leading_zeros scalar sequence position bytes class rules inside byte syntax expression scan value document rulestest
    spelling meaning command imperative table wellformed memory outcome canonical printing pair
computes = tt
