-- `wire_sent::inquire::write_inquire` meets its contract: its three runs are the message. Assumes nothing.
use native.Mathlib.Omega.{arith}
use mathlib.Core.Path.{◌≡◌, refl}
use lib.Dec.{eqb}
use lib.ListN.{length}
use borrow.Author.Tests.{ne_eqb}
use Rattle.wire_shapes.proofs.ShapeLaws.{and_false}
use Rattle.wire_write.specs.Making.{inquire_made}
use Rattle.wire_write.proofs.WriteLaws.{wrote-6}
use Rattle.wire_sent.proofs.FrontLaws.{inquire_known, inquire-put, wrote-short, wrote_right}
use Rattle.wire_sent.proofs.inquire.write_inquire.Goals as goal

pub returns-then-key-ne-KEY_LEN : goal.returns-then-key-ne-KEY_LEN
unfolding inquire_made
returns-then-key-ne-KEY_LEN c =
    let a = c.args in
    wrote-6 (inquire_made a.head.major a.head.minor a.head.id a.key.now a.nonce.now) a.out.now
    (rw (ne_eqb (length a.key.now) 32 c.if-key-ne-KEY_LEN.true) refl)

pub returns-then-nonce-ne-NONCE_LEN : goal.returns-then-nonce-ne-NONCE_LEN
unfolding inquire_made
returns-then-nonce-ne-NONCE_LEN c =
    let a = c.args in
    wrote-6 (inquire_made a.head.major a.head.minor a.head.id a.key.now a.nonce.now) a.out.now
    (rw (ne_eqb (length a.nonce.now) 16 c.if-nonce-ne-NONCE_LEN.true) (and_false (eqb (length a.key.now) 32)))

pub returns-then-out-lt76 : goal.returns-then-out-lt76
returns-then-out-lt76 c =
    let a = c.args in
    let k : length a.key.now ≡ 32 = omega (arith, c.if-key-ne-KEY_LEN.false) in
    let n : length a.nonce.now ≡ 16 = omega (arith, c.if-nonce-ne-NONCE_LEN.false) in
    wrote-short (inquire_known a.head.major a.head.minor a.head.id a.key.now a.nonce.now k n) a.out.now (omega (arith, c.if-out-lt76.true))

pub returns : goal.returns
returns c =
    let a = c.args in
    let k : length a.key.now ≡ 32 = omega (arith, c.if-key-ne-KEY_LEN.false) in
    let n : length a.nonce.now ≡ 16 = omega (arith, c.if-nonce-ne-NONCE_LEN.false) in
    wrote_right (inquire_known a.head.major a.head.minor a.head.id a.key.now a.nonce.now k n) a.out.now (omega (arith, c.if-out-lt76.false))
    (omega arith)
    (inquire-put a.head.major a.head.minor a.head.id a.key.now a.nonce.now a.out.now k n (omega (arith, c.if-out-lt76.false))
    c.put_keyed.ensures c.put_head.ensures c.copy_block.ensures)
