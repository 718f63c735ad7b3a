-- `wire_sent::front::put_keyed` meets its contract: four runs, one after the other. Assumes nothing.
use Rattle.wire_sent.proofs.FrontLaws.{key-put}
use Rattle.wire_sent.proofs.front.put_keyed.Goals as goal

pub returns : goal.returns
returns c =
    let a = c.args in
    key-put a.head.major a.head.minor a.kind a.head.id a.out.now c.put_header.ensures a.number a.len a.word a.key.now
    c.requires.2 c.requires.0 c.put_word.ensures c.put_head.ensures c.copy_block.ensures
