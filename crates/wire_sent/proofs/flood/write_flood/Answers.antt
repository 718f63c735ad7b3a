-- `wire_sent::flood::write_flood` meets its contract: its two runs are the message. Assumes nothing.
use native.Mathlib.Omega.{arith}
use mathlib.Core.Path.{◌≡◌, refl}
use lib.Dec.{eqb}
use lib.ListN.{length}
use borrow.Author.Tests.{ne_eqb}
use Rattle.octet.specs.Part.{part}
use Rattle.wire_shapes.proofs.ShapeLaws.{and_false}
use Rattle.wire_write.specs.Making.{flood_made}
use Rattle.wire_write.proofs.WriteLaws.{wrote-6}
use Rattle.wire_sent.specs.Fronts.{key_front, entry_field}
use Rattle.wire_sent.proofs.FrontLaws.{EntryAt, no-entry, entry-there, entry-most, field-long, key-long, flood_known}
use Rattle.wire_sent.proofs.FrontLaws.{next, wrote-short, wrote_right}
use Rattle.wire_sent.proofs.flood.write_flood.Goals.{Else-entry-eq0}
use Rattle.wire_sent.proofs.flood.write_flood.Goals as goal

-- behind the tests a record in form stands there, and the key is one
there : (m : Else-entry-eq0) → let a = m.args in
    EntryAt a.at a.s.now m.entry_len-entry.result
there m = entry-there _ _ _ m.entry_len-entry.ensures m.if-entry-eq0.false

keyed : (m : Else-entry-eq0) → length m.args.key.now ≡ 32
keyed m = omega (arith, m.if-key-ne-KEY_LEN.false)

pub returns-then-key-ne-KEY_LEN : goal.returns-then-key-ne-KEY_LEN
unfolding flood_made
returns-then-key-ne-KEY_LEN c =
    let a = c.args in
    wrote-6 (flood_made a.head.major a.head.minor a.head.id a.key.now a.s.now a.at) a.out.now
    (rw (ne_eqb (length a.key.now) 32 c.if-key-ne-KEY_LEN.true) refl)

pub returns-then-entry-eq0 : goal.returns-then-entry-eq0
unfolding flood_made
returns-then-entry-eq0 c =
    let a = c.args in
    wrote-6 (flood_made a.head.major a.head.minor a.head.id a.key.now a.s.now a.at) a.out.now
    (rw (no-entry a.at _ a.s.now c.entry_len-entry.ensures c.if-entry-eq0.true) (and_false (eqb (length a.key.now) 32)))

pub overflow_add-size : goal.overflow_add-size
overflow_add-size c = omega (arith, entry-most (there (goal.at.overflow_add-size c).Else-entry-eq0))

pub returns-then-out-size : goal.returns-then-out-size
returns-then-out-size c =
    let a = c.args in
    wrote-short (flood_known (there (goal.at.returns-then-out-size c).Else-entry-eq0) a.head.major a.head.minor a.head.id a.key.now (keyed (goal.at.returns-then-out-size c).Else-entry-eq0)) a.out.now
    (omega (arith, c.if-out-size.true))

pub put_entry-requires : goal.put_entry-requires
put_entry-requires c =
    let w = there (goal.at.put_entry-requires c).Else-entry-eq0 in
    (w.within, w.formed, omega (arith, w.long, c.if-out-size.false, c.put_keyed.auto.out))

pub returns : goal.returns
returns c =
    let w = there (goal.at.returns c).Else-entry-eq0 in
    let k = keyed (goal.at.returns c).Else-entry-eq0 in
    let a = c.args in
    let x = key_front a.head.major a.head.minor 4 a.head.id 0x43 3 0 a.key.now in
    let y = entry_field a.head.major a.head.minor (part a.at 100 a.s.now) in
    wrote_right (flood_known w a.head.major a.head.minor a.head.id a.key.now k) a.out.now (omega (arith, c.if-out-size.false))
    (omega (arith, entry-most w))
    (next a.out.now 56 x y c.put_keyed.ensures (key-long a.head.major a.head.minor 4 a.head.id 0x43 3 0 a.key.now k)
    (omega (arith, c.if-out-size.false, field-long w a.head.major a.head.minor)) c.put_entry.ensures)
