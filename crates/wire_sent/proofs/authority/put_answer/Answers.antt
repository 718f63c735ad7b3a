-- `wire_sent::authority::put_answer` meets its contract: five runs, one after the other. Assumes nothing.
use Rattle.wire_sent.proofs.FrontLaws.{answer-put}
use Rattle.wire_sent.proofs.authority.put_answer.Goals as goal

pub returns : goal.returns
returns c =
    let a = c.args in
    answer-put a.head.major a.head.minor a.head.id a.acked a.size a.out.now c.requires.0 c.put_acked.ensures c.put_head.ensures
    c.write_u16.ensures c.write_u16-2.ensures c.put_word.ensures
