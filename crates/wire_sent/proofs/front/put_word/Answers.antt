-- `wire_sent::front::put_word` meets its contract: two runs, one after the other. Assumes nothing.
use Prim.Native.Nat.{◌+◌}
use native.Mathlib.Omega.{arith}
use mathlib.Core.Path.{ap, ◌∙◌}
use Rattle.octet.specs.Number.{digits_be}
use Rattle.octet.specs.Part.{splice}
use Rattle.octet.proofs.BigLaws.{length-digits_be}
use Rattle.wire_write.proofs.PutLaws.{put-put, head_length}
use Rattle.wire_sent.specs.Fronts.{mark}
use Rattle.wire_sent.proofs.front.put_word.Goals as goal

pub returns : goal.returns
returns c =
    let a = c.args in
    let long = head_length a.number (a.len + 4) in
    let four = length-digits_be 256 4 a.word in
    c.write_u32.ensures ∙ ap (splice (a.at + 4) (digits_be 256 4 a.word)) c.put_head.ensures
    ∙ put-put a.out.now a.at (mark a.number a.len) (omega (arith, c.requires.0)) (a.at + 4) (digits_be 256 4 a.word) (omega arith)
    (omega (arith, c.requires.0))
