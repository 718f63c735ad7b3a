-- `commit_flood` meets its contract: the ACK's length is where the INQUIRE begins, and the two stand one after the other. Assumes nothing.
use native.Mathlib.Omega.{arith}
use Prim.Native.Nat.{ℕ, ◌+◌, ◌≤◌}
use lib.ListN.{length}
use mathlib.Core.Path.{◌≡◌, refl, sym, ap, ◌∙◌}
use mathlib.Core.Bool.{true, false}
use mathlib.Core.List.{List}
use borrow.Author.Tests.{not-true, not-false}
use Rattle.octet.specs.Part.{part}
use Rattle.record.specs.Entry.{record_of}
use Rattle.plan_flood.specs.Rooms.{ack_room}
use Rattle.gauge_commit.specs.Sending.{lengths, sending}
use Rattle.gauge_commit.proofs.SentLaws.{room_few, record_long, acks-told, none-follows, follows-sent, follows-told, alone-told}
use borrow.Author.Rules.{rules}
use Rattle.commit_flood.proofs.commit_flood.Goals as goal

pub answer_of-requires : goal.answer_of-requires
answer_of-requires c =
    let s = c in
    (room_few s.args.silent s.args.n c.send_ack-first.ensures.value, omega arith)

pub returns-then-not-opens : goal.returns-then-not-opens
returns-then-not-opens c =
    let at-send-ack = c in
    let s = c in
    let a = s.args in
    let p = s.requires in
    let v = a.entry.now in
    let e : a.opens ≡ false = c.if-not-opens.true in
    let none = none-follows a.head.major a.head.minor a.head.id a.acked a.n a.silent a.opens a.nonce.now (record_of v) e in record {
      value = c.answer_of.ensures ∙ acks-told a.head.major a.head.minor a.head.id a.acked a.n a.silent at-send-ack.send_ack-first.ensures.value
          ∙ ap lengths (sym none);
      waiting_after = rw e refl;
      output_after = at-send-ack.send_ack-first.ensures.output_after ∙ ap (λ (ds : List (List ℕ)). sending ds a.output.now) (sym none);
    }

pub ask-requires : goal.ask-requires
ask-requires c =
    let at-send-ack = c in
    let s = c in
    let a = s.args in
    let p = s.requires in
    let e : a.opens ≡ true = c.if-not-opens.false in
    let room : ack_room a.silent a.n + 76 ≤ length a.output.now = rw e at p.5 in
    (p.0 e, p.1, p.2, p.3, p.4, omega (arith, at-send-ack.send_ack-first.ensures.value))

pub returns-then-silent : goal.returns-then-silent
returns-then-silent c =
    let at-ask = c in
    let at-if1 = c in
    let at-send-ack = c in
    let s = c in
    let a = s.args in
    let p = s.requires in
    let v = a.entry.now in
    let e : a.opens ≡ true = at-if1.if-not-opens.false in
    let long = record_long v p.4 in record {
      value = c.answer_of-then-silent.ensures
          ∙ alone-told a.head.major a.head.minor a.head.id a.acked a.n a.silent a.opens a.nonce.now (record_of v) long p.3 e
          c.if-silent.true;
      waiting_after = rw e at-ask.ask.ensures.waiting_after;
      output_after = at-ask.ask.ensures.output_after
          ∙ follows-sent a.head.major a.head.minor a.head.id a.acked a.n a.silent a.opens a.nonce.now (record_of v) long p.3 e
          at-send-ack.send_ack-first.result a.output.now at-send-ack.send_ack-first.new.output p.5
          at-send-ack.send_ack-first.ensures.value at-send-ack.send_ack-first.ensures.output_after;
    }

pub answer_of-requires-2 : goal.answer_of-requires-2
answer_of-requires-2 c =
    let at-send-ack = c in
    let s = c in
    (room_few s.args.silent s.args.n at-send-ack.send_ack-first.ensures.value, omega arith)

pub returns : goal.returns
returns c =
    let at-ask = c in
    let at-if1 = c in
    let at-send-ack = c in
    let s = c in
    let a = s.args in
    let p = s.requires in
    let v = a.entry.now in
    let e : a.opens ≡ true = at-if1.if-not-opens.false in
    let long = record_long v p.4 in record {
      value = c.answer_of-2.ensures
          ∙ follows-told a.head.major a.head.minor a.head.id a.acked a.n a.silent a.opens a.nonce.now (record_of v) long p.3 e
          at-send-ack.send_ack-first.ensures.value c.if-silent.false;
      waiting_after = rw e at-ask.ask.ensures.waiting_after;
      output_after = at-ask.ask.ensures.output_after
          ∙ follows-sent a.head.major a.head.minor a.head.id a.acked a.n a.silent a.opens a.nonce.now (record_of v) long p.3 e
          at-send-ack.send_ack-first.result a.output.now at-send-ack.send_ack-first.new.output p.5
          at-send-ack.send_ack-first.ensures.value at-send-ack.send_ack-first.ensures.output_after;
    }
