-- `Row::strings_end` meets its contract.
use native.Mathlib.Omega.{arith}
use mathlib.Core.Path.{◌∙◌, sym}
use Rattle.validate.proofs.lemmas.records.Decided.{ends_nowhere, the_end, same_end}
use Rattle.validate.proofs.lemmas.records.RecordTests.{row_word, row_whole}
use Rattle.validate.proofs.record.Row.strings_end.Goals as goal

pub returns-then-self-parent : goal.returns-then-self-parent
returns-then-self-parent c = ends_nowhere (λ s. c.if-self-parent.true (row_word c.args.self.now 1 (omega arith) ∙ s.under))

pub returns : goal.returns
returns c =
    let row = c.args.self.now in
    let (key, a) = the_end c.in_ok-key_end.ensures in
    let (type, b) = the_end c.in_ok-type_end.ensures in
    let type_at = rw a at type in
    same_end
    (λ text. record {
      whole = row_whole row;
      under = sym (row_word row 1 (omega arith)) ∙ c.if-self-parent.false;
      key_stands = key;
      type_at = type_at;
      text_at = text;
    }) (λ s. s.text_at) (rw (b, a) at c.string_end-3.ensures)
