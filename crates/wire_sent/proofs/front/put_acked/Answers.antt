-- `wire_sent::front::put_acked` meets its contract: two runs, one after the other. Assumes nothing.
use Rattle.wire_sent.proofs.FrontLaws.{acked-put}
use Rattle.wire_sent.proofs.front.put_acked.Goals as goal

pub returns : goal.returns
returns c =
    let a = c.args in
    acked-put a.head.major a.head.minor a.kind a.head.id a.out.now c.put_header.ensures a.acked c.requires c.put_word.ensures
