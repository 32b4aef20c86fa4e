-- `reader::read` meets its contract: each way passes what the parts ensure to its lemma of `Promises`.
use mathlib.Core.Path.{refl, sym}
use native.Mathlib.Omega.{arith}
use Rattle.document.specs.rules.Memory.{Memory}
use Rattle.reader.proofs.lemmas.walk.Refusals.{refusal_some}
use Rattle.reader.proofs.lemmas.read.Promises.{room_fits, group_fits, group_short, group_reads, walk_fits, walk_reads, full_reads, filled_reads}
use Rattle.reader.specs.internal.FirstGroups.{fault_number, fault_place, told_number, told_place}
use Rattle.reader.proofs.lemmas.read.AnswerGroups.{fault_some}
use Rattle.reader.proofs.read.Goals as goal

pub answer_at-requires : goal.answer_at-requires
unfolding told_number told_place
answer_at-requires c = (
  omega (arith, group_fits _ _ (fault_number c.in-Err.fault) (fault_place c.in-Err.fault) c.in-Err.ensures, c.place.ensures),
  omega arith,
  omega arith,
)

pub returns-in-Err : goal.returns-in-Err
unfolding told_number told_place
returns-in-Err c = group_reads _ _ _ (fault_number c.in-Err.fault) (fault_place c.in-Err.fault) c.in-Err.ensures (fault_some c.in-Err.fault) _
    (rw (c.number.ensures, c.place.ensures) at c.answer_at.ensures)

pub judge-requires : goal.judge-requires
unfolding told_number told_place
judge-requires c = group_short _ _ 0 0 c.in_default.ensures refl

pub answer_at-requires-in-Err-judge : goal.answer_at-requires-in-Err-judge
unfolding told_number told_place
answer_at-requires-in-Err-judge c = (
  (walk_fits _ _ 0 0 c.in_default.ensures refl _ c.in-Err-judge.ensures.judges_text).0,
  omega arith,
  omega arith,
)

pub returns-in-Err-judge : goal.returns-in-Err-judge
unfolding told_number told_place
returns-in-Err-judge c = walk_reads _ _ _ 0 0 c.in_default.ensures refl _ c.in-Err-judge.ensures.judges_text
    (refusal_some c.in-Err-judge.r.refusal) _ (rw c.number-in-Err-judge.ensures at c.answer_at-in-Err-judge.ensures)

pub answer_at-requires-in-Err-room : goal.answer_at-requires-in-Err-room
unfolding told_number told_place
answer_at-requires-in-Err-room c = let (p, n, b) = walk_fits _ _ 0 0 c.in_default.ensures refl _
    c.in-Ok.ensures.judges_text in
    (omega arith, n, b)

pub returns-in-Err-room : goal.returns-in-Err-room
unfolding told_number told_place
returns-in-Err-room c = full_reads _ _ _ 0 0 c.in_default.ensures refl _ c.in-Ok.ensures.judges_text
    refl _ c.in-Err-room.ensures (refusal_some c.in-Err-room.full) _
    (rw c.number-in-Err-room.ensures at c.answer_at-in-Err-room.ensures)

pub fill-requires : goal.fill-requires
unfolding told_number told_place
fill-requires c = let (few, words, places) = room_fits _ _ _ _ _ (sym c.in_default-room.ensures) in
    (group_short _ _ 0 0 c.in_default.ensures refl, few, words, places)

pub answer_at-requires-2 : goal.answer_at-requires-2
unfolding told_number told_place
answer_at-requires-2 c = let (p, n, b) = walk_fits _ _ 0 0 c.in_default.ensures refl _
    c.in-Ok.ensures.judges_text in
    (omega arith, n, b)

pub returns : goal.returns
unfolding told_number told_place
returns c = let args = c.args in
    let filled = c.fill in
    let m : Memory = record { nodes = args.nodes.now; places = args.places.now; pool = args.pool.now } in
    let exit : Memory = record { nodes = filled.new.nodes; places = filled.new.places; pool = filled.new.pool } in
    filled_reads _ _ m 0 0 c.in_default.ensures refl _ c.in-Ok.ensures.judges_text
    refl _ c.in_default-room.ensures
    refl exit _ c.in-Ok.ensures.tape_of_text filled.ensures _ c.answer_at-2.ensures
