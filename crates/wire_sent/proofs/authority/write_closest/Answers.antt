-- `wire_sent::authority::write_closest` meets its contract: its two runs are the message. Assumes nothing.
use Prim.Native.Nat.{◌+◌}
use native.Mathlib.Omega.{arith}
use Rattle.octet.specs.Part.{part}
use Rattle.wire_write.specs.Making.{closest_made}
use Rattle.wire_write.proofs.WriteLaws.{wrote-6}
use Rattle.wire_sent.specs.Fronts.{answer_front, entry_field}
use Rattle.wire_sent.proofs.FrontLaws.{EntryAt, no-entry, entry-there, entry-most, field-long, answer_long, closest-known}
use Rattle.wire_sent.proofs.FrontLaws.{next, wrote-short, wrote_right}
use Rattle.wire_sent.proofs.authority.write_closest.Goals.{Else-entry-eq0}
use Rattle.wire_sent.proofs.authority.write_closest.Goals as goal

-- behind the first test a record in form stands there
there : (m : Else-entry-eq0) → let a = m.args in EntryAt a.at a.s.now m.entry_len-entry.result
there m = entry-there _ _ _ m.entry_len-entry.ensures m.if-entry-eq0.false

pub returns-then-entry-eq0 : goal.returns-then-entry-eq0
unfolding closest_made
returns-then-entry-eq0 c =
    let a = c.args in
    wrote-6 (closest_made a.head.major a.head.minor a.head.id a.acked a.s.now a.at) a.out.now
    (no-entry a.at _ a.s.now c.entry_len-entry.ensures c.if-entry-eq0.true)

pub overflow_add-size : goal.overflow_add-size
overflow_add-size c = omega (arith, entry-most (there (goal.at.overflow_add-size c).Else-entry-eq0))

pub returns-then-out-size : goal.returns-then-out-size
returns-then-out-size c =
    let a = c.args in
    wrote-short (closest-known (there (goal.at.returns-then-out-size c).Else-entry-eq0) a.head.major a.head.minor a.head.id a.acked) a.out.now (omega (arith, c.if-out-size.true))

pub put_answer-requires : goal.put_answer-requires
put_answer-requires c = (omega (arith, c.if-out-size.false), omega (arith, entry-most (there (goal.at.put_answer-requires c).Else-entry-eq0)))

pub put_entry-requires : goal.put_entry-requires
put_entry-requires c =
    let w = there (goal.at.put_entry-requires c).Else-entry-eq0 in
    (w.within, w.formed, omega (arith, w.long, c.if-out-size.false, c.put_answer.auto.out))

pub returns : goal.returns
returns c =
    let w = there (goal.at.returns c).Else-entry-eq0 in
    let a = c.args in
    let n = c.entry_len-entry.result in
    let x = answer_front a.head.major a.head.minor a.head.id a.acked (8 + n) in
    let y = entry_field a.head.major a.head.minor (part a.at 100 a.s.now) in
    wrote_right (closest-known w a.head.major a.head.minor a.head.id a.acked) a.out.now (omega (arith, c.if-out-size.false))
    (omega (arith, entry-most w))
    (next a.out.now 36 x y c.put_answer.ensures (answer_long a.head.major a.head.minor a.head.id a.acked (8 + n))
    (omega (arith, c.if-out-size.false, field-long w a.head.major a.head.minor)) c.put_entry.ensures)
