-- `send_inquire` meets its contract: the INQUIRE fits what is lent of the output. Assumes nothing.
use Rattle.gauge_commit.proofs.SentLaws.{inquire-sent}
use borrow.Author.Rules.{rules}
use Rattle.commit_asking.proofs.send_inquire.Goals as goal

pub returns : goal.returns
returns c =
    let s = c in
    let a = s.args in
    let p = s.requires in
    inquire-sent a.head.major a.head.minor a.head.id a.at a.r.now a.nonce.now a.output.now p.0 p.1 p.2
    c.write_inquire.ensures
