-- `stores::put_string` meets its contract.
use mathlib.Core.Path.{refl, sym}
use Prim.Native.Nat.{◌-◌, ◌+◌, ◌≤◌}
use native.Mathlib.Nat.{add-zero}
use native.Mathlib.Omega.{arith}
use lib.ListN.{length, drop, length-drop}
use lib.Seq.{length-take-le}
use Rattle.atoms.proofs.Contents.{faulty_nothing, good_number, string_inside}
use Rattle.atoms.proofs.stores.Unescaped.{string_span, unescaped}
use Rattle.atoms.proofs.stores.put_string.Goals as goal

pub returns-in_default : goal.returns-in_default
returns-in_default c = rw (faulty_nothing c.args.text.now c.args.place c.in_default.field-0 c.in_default.ensures) (refl, refl)

pub overflow_add-from : goal.overflow_add-from
overflow_add-from c = omega (arith, string_inside c.args.text.now c.args.place 0 (good_number _ _ _ c.in-Ok.ensures) refl)

pub overflow_sub-end : goal.overflow_sub-end
overflow_sub-end c = omega (arith, string_span c.args.text.now c.args.place c.in-Ok.string c.in-Ok.ensures)

pub overflow_sub-end-2 : goal.overflow_sub-end-2
overflow_sub-end-2 c = omega (arith, string_span c.args.text.now c.args.place c.in-Ok.string c.in-Ok.ensures)

pub slice_bounds-put_run-count : goal.slice_bounds-put_run-count
slice_bounds-put_run-count c = omega (arith, string_span c.args.text.now c.args.place c.in-Ok.string c.in-Ok.ensures)

pub slice_bounds-put_run-start : goal.slice_bounds-put_run-start
slice_bounds-put_run-start c = omega (arith, string_span c.args.text.now c.args.place c.in-Ok.string c.in-Ok.ensures)

pub slice_bounds-put_run-end : goal.slice_bounds-put_run-end
slice_bounds-put_run-end c = (unescaped c.args.text.now c.args.place c.in-Ok.string c.in-Ok.ensures c.if-string-end.true).within

pub overflow_sub-result : goal.overflow_sub-result
overflow_sub-result c = omega (arith, string_span c.args.text.now c.args.place c.in-Ok.string c.in-Ok.ensures)

pub returns-then-string-end : goal.returns-then-string-end
returns-then-string-end c =
    let b = unescaped c.args.text.now c.args.place c.in-Ok.string c.in-Ok.ensures c.if-string-end.true in
    let text = c.args.text.now in
    let from = c.args.place + 1 in
    let size = c.in-Ok.string.next - 1 - from in
    let fits : size ≤ length (drop from text) = omega (arith, length-drop from text, b.within) in
    rw b.same (
      sym (length-take-le size (drop from text) fits),
      rw
          (add-zero c.args.at) at
          c.put_run.ensures,
    )

pub put_runs-requires : goal.put_runs-requires
put_runs-requires c = sym (good_number _ _ _ c.in-Ok.ensures)
