-- `fill::Lent::put` meets its contract.
use mathlib.Core.Path.{refl}
use native.Mathlib.Omega.{arith}
use borrow.Author.Tests.{ne_eqb}
use Rattle.document.specs.rules.Table.{offset}
use Rattle.reader.specs.internal.Filling.{held_at}
use Rattle.reader.proofs.lemmas.fill.Stores.{offset_none, offset_some}
use Rattle.reader.proofs.lemmas.walk.QuotedStrings.{atom_within}
use Rattle.reader.proofs.fill.Lent.put.Goals as goal

pub returns-then-place-eq0-clause-put : goal.returns-then-place-eq0-clause-put
unfolding held_at offset
returns-then-place-eq0-clause-put c = let none = c.if-place-eq0.true in
    rw none (record { offset_is = refl; length_is = refl; bytes_are = omega arith; pool_is = refl; nodes_are = refl; places_are = refl })

pub returns-then-length-eq0-clause-put : goal.returns-then-length-eq0-clause-put
unfolding held_at
returns-then-length-eq0-clause-put c = let some = ne_eqb _ 0 c.if-place-eq0.false in
    let (l, p) = c.put_atom-length.ensures in
    let e = c.if-length-eq0.true in
    rw some (record { offset_is = offset_none _ _ _ l e; length_is = omega arith; bytes_are = omega arith; pool_is = p; nodes_are = refl; places_are = refl })

pub overflow_add-self : goal.overflow_add-self
overflow_add-self c = omega (arith, atom_within c.args.text.now c.args.place)

pub overflow_cast-result-2 : goal.overflow_cast-result-2
overflow_cast-result-2 c = omega (arith, atom_within c.args.text.now c.args.place)

pub returns-clause-put : goal.returns-clause-put
unfolding held_at
returns-clause-put c = let some = ne_eqb _ 0 c.if-place-eq0.false in
    let (l, p) = c.put_atom-length.ensures in
    let e = c.if-length-eq0.false in
    rw some (record { offset_is = offset_some _ _ _ l e; length_is = l; bytes_are = omega arith; pool_is = p; nodes_are = refl; places_are = refl })
