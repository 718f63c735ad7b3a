-- `commit_revoke` meets its contract: each of the three calls does its part. Assumes nothing.
use native.Mathlib.Omega.{arith}
use mathlib.Core.Path.{◌∙◌}
use Rattle.gauge_commit.proofs.SentLaws.{room_few, acks-told}
use borrow.Author.Rules.{rules}
use Rattle.commit_flood.proofs.commit_revoke.Goals as goal

pub answer_of-requires : goal.answer_of-requires
answer_of-requires c =
    let at-remove = c in
    let s = c in
    (room_few s.args.silent s.args.n c.send_ack-first.ensures.value, omega arith)

pub returns : goal.returns
returns c =
    let at-free-inquiry = c in
    let at-remove = c in
    let s = c in
    let a = s.args in record { value = c.answer_of.ensures ∙ acks-told a.head.major a.head.minor a.head.id a.acked a.n a.silent c.send_ack-first.ensures.value; cache_after = at-remove.remove.ensures.cache_after; firsts_after = at-remove.remove.ensures.firsts_after; waiting_after = at-free-inquiry.free_inquiry.ensures; output_after = c.send_ack-first.ensures.output_after }
