-- What stands in a text is located there, in either spelling.
use Prim.Native.Nat.{ℕ, ◌<◌}
use mathlib.Core.Path.{◌≡◌, refl, sym, ◌∙◌}
use mathlib.Core.List.{List, [], ◌∷◌}
use native.Mathlib.Omega.{arith}
use lib.ListN.{length}
use Rattle.elements.specs.rules.Class as Class
use Rattle.syntax.specs.rules.Expression.{Expr, Exprs, and}
use Rattle.document.specs.rules.Spelling.{Spelling}
use Rattle.document.specs.rules.Lead.{expr_class}
use Rattle.document.specs.reference.Meaning.{fine, judge_root}
use Rattle.document.specs.reference.Imperative.{innermost, contents_of, regroup}
use Rattle.document.specs.rules.Command.{as_not_allowed}
use Rattle.document.specs.rules.Account.{NestedForm, as_it_stands, regrouped}
use Rattle.document.proofs.BlockExpressions.{root_document}
use Rattle.document.proofs.Regroup.{block_class}
use Rattle.document.proofs.BlockContents.{takes_regroup}
use Rattle.document.proofs.RegroupedAll.{Laws, regrouped_all}
use Rattle.reader.specs.internal.RunStands.{RunStands, ended, after_blank, after_line_end, a_symbol, a_string, a_list}
use Rattle.reader.specs.internal.Tape.{Located, LocatedAll}
use Rattle.reader.proofs.lemmas.walk.FirstToken.{SymbolHere, symbol_here, StringHere, string_here}

stands_located : {s : List ℕ} {i e : ℕ} {es : Exprs} → 0 < i → RunStands s i es e → LocatedAll s es
stands_located p (ended h) = tt
stands_located p (after_blank h st) = stands_located (omega arith) st
stands_located p (after_line_end h g st) = stands_located (omega arith) st
stands_located {s} p (a_symbol {i = i} h st) = let r : SymbolHere s i = symbol_here s i h in ((p, r.value), stands_located (omega arith) st)
stands_located {s} p (a_string {i = i} h g st) = let r : StringHere s i = string_here s i h g in ((p, refl), stands_located (omega arith) st)
stands_located p (a_list h st g st') = (stands_located (omega arith) st, stands_located (omega arith) st')

-- No symbol or string stands at place 0 where a document's command stands first.
document_located : {s : List ℕ} {i e : ℕ} {x : Expr} {es : Exprs} → expr_class x ≡ Class.document → RunStands s i (and x es) e → LocatedAll s (and x es)
unfolding expr_class
document_located c (after_blank h st) = stands_located (omega arith) st
document_located c (after_line_end h g st) = stands_located (omega arith) st
document_located c (a_symbol h st) = absurd (omega arith)
document_located c (a_string h g st) = absurd (omega arith)
document_located c (a_list h st g st') = (stands_located (omega arith) st, stands_located (omega arith) st')

located_laws : (s : List ℕ) → Laws (λ (n : ℕ) (e : Expr). Located s e) (λ (n : ℕ) (es : Exprs). LocatedAll s es)
unfolding as_not_allowed
located_laws s = record {
  nothing = tt;
  put = λ m n e es t u. (t, u);
  apart = λ n e es t. (0, n, omega arith, t.0, t.1);
  wider = λ m n e h t. t;
  all_wider = λ m n es h t. t;
  not_allowed = λ n e t. tt;
  relist = λ n at es t. (0, t, λ m fs u. u);
}

-- The root of the nested form is the document's command.
command_first : (e : Expr) (es : Exprs) → expr_class (regroup e es) ≡ Class.document → expr_class e ≡ Class.document
unfolding regroup
command_first e es c = sym (block_class e (innermost (contents_of (Class.significance Class.document ∷ []) es))) ∙ c

pub form_located : (m : Spelling) (s : List ℕ) (es : Exprs) (e : Expr) → NestedForm m es e → RunStands s 0 es (length s) → judge_root e ≡ fine → Located s e
form_located m s es e as_it_stands st f = (document_located (root_document e f).0 st).0
form_located m s es e (regrouped {e = x} {es = xs} t) st f =
    let f' : judge_root (regroup x xs) ≡ fine = rw (takes_regroup x t) at f in
    rw (takes_regroup x t)
    (regrouped_all (λ (n : ℕ) (e : Expr). Located s e) (λ (n : ℕ) (es : Exprs). LocatedAll s es) (located_laws s) 0 x xs
    (document_located (command_first x xs (root_document (regroup x xs) f').0) st))
