-- `send_ack` meets its contract: with D set nothing is written; else the ACK fits and stands at the output's start. Assumes nothing.
use Rattle.gauge_commit.proofs.SentLaws.{silent-told, silent-sent, heard-told, heard-sent}
use borrow.Author.Rules.{rules}
use Rattle.commit_flood.proofs.send_ack.Goals as goal

pub returns-then-silent : goal.returns-then-silent
returns-then-silent c = let a = c.args in record { value = silent-told a.head.major a.head.minor a.head.id a.acked a.n a.silent c.if-silent.true; output_after = silent-sent a.head.major a.head.minor a.head.id a.acked a.n a.silent a.output.now c.if-silent.true }

pub returns : goal.returns
returns c =
    let at-if1 = c in
    let s = c in
    let a = s.args in record { value = heard-told a.head.major a.head.minor a.head.id a.acked a.n a.silent at-if1.if-silent.false s.requires c.write_ack-wrote.ensures; output_after = heard-sent a.head.major a.head.minor a.head.id a.acked a.n a.silent at-if1.if-silent.false s.requires c.write_ack-wrote.ensures }
